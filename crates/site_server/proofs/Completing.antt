-- A link that holds whole requests alone.
use Rattle.std.proofs.Common.{◌≡◌, ◌⊎◌, inl, inr, ◌<◌, ℕ, Bool, true, false, List, [], ◌++◌, length, nat_le, Option, Some, None, refl, sym, ap, ◌∙◌, subst, append-nil, arith}
use Rattle.std.specs.Io.KnownBytes.{Consumes, IsAtEnd}
use Rattle.std.proofs.lemmas.List.{length-append}
use Rattle.outside.specs.Causes.{Rose}
use Rattle.outside.specs.Doors.{Wire}
use Rattle.turn_desk.specs.declared.view.Noted.{Noted}
use Rattle.turn_desk.specs.declared.view.Origin.{Origin}
use Rattle.station_http.specs.declared.asked.Asked.{Asked}
use Rattle.station_http.specs.declared.fault.HttpFault.{HttpFault}
use Rattle.station_http.specs.declared.fault.HttpFault.TheVariants as http
use Rattle.station_http.specs.Limits.{session_limit}
use Rattle.station_http.specs.Talk.{IsTalk, IsSession, is_last}
use Rattle.station_http.proofs.Unique.{talk_unique}
use Rattle.station_http.specs.Laws.{IsNoCut}
use Rattle.station_http.proofs.Fronts.{fault_stays, closed_stays}
use Rattle.site_answers.specs.declared.fault_name.FaultName.{FaultName}
use Rattle.site_server.specs.declared.end.SessionEnd.{SessionEnd}
use Rattle.site_server.specs.declared.end.SessionEnd.TheVariants.{Ended, Cut, Refused, ReadFault, WriteFault, SessionLong, Memory}
use Rattle.site_answers.specs.Saying.{refusal_of}
use Rattle.site_server.specs.Exchanges.{asks_of}
use Rattle.site_server.specs.Serving.{IsServed}

not_full : (n : ℕ) → n < session_limit → nat_le session_limit n ≡ false
not_full n lt = grind arith

no_cut : (fault : HttpFault) (name : FaultName) → refusal_of fault ≡ Some name → IsNoCut fault
no_cut (http.Cut n) name e = cc
no_cut http.Spent name e = tt
no_cut http.ReadFault name e = tt
no_cut http.SessionLong name e = tt
no_cut http.HeadTooLong name e = tt
no_cut http.BadHead name e = tt
no_cut http.ChunkedBody name e = tt
no_cut http.NoLength name e = tt
no_cut http.BodyTooLong name e = tt
no_cut http.NoRoute name e = tt
no_cut http.BadMethod name e = tt
no_cut http.Memory name e = tt

none_some : (fault : HttpFault) → ◌≡◌ {A = Option HttpFault} (Some fault) None → ⊥
none_some fault e = cc

-- the rest of the bytes
rest_of : (left0 left1 : Option (List ℕ)) (bytes taken : List ℕ) → left0 ≡ Some bytes → Consumes left0 left1 taken → (rest : List ℕ) × (left1 ≡ Some rest) × (bytes ≡ taken ++ rest)
rest_of left0 left1 bytes taken is c = go left1 (subst (λ (l : Option (List ℕ)). Consumes l left1 taken) is c)
  where
    go : (left : Option (List ℕ)) → Consumes (Some bytes) left taken → (rest : List ℕ) × (left ≡ Some rest) × (bytes ≡ taken ++ rest)
    go None c = absurd c
    go (Some rest) c = (rest, refl, c)

module _ (bytes taken rest : List ℕ) (requests asks : List Asked) (all : bytes ≡ taken ++ rest) (short : length bytes < session_limit) (whole : IsSession bytes requests None) where
  open_talk : (o : Option HttpFault) → IsSession taken asks o → IsTalk false taken asks o
  open_talk o t = let e = ap length all in let sum = length-append taken rest in subst (λ (b : Bool). IsTalk b taken asks o) (not_full (length taken) (omega (arith, e, sum, short))) t

  whole_talk : IsTalk false (taken ++ rest) requests None
  whole_talk = subst (λ (bs : List ℕ). IsTalk false bs requests None) all (subst (λ (b : Bool). IsTalk b bytes requests None) (not_full (length bytes) short) whole)

  no_fault : (fault : HttpFault) → IsNoCut fault → IsSession taken asks (Some fault) → ⊥
  no_fault fault n t = none_some fault (talk_unique false (taken ++ rest) asks requests (Some fault) None (fault_stays taken rest asks fault n (open_talk (Some fault) t)) whole_talk).1

  at_end_talk : (o : Option HttpFault) → rest ≡ [] → IsSession taken asks o → (asks ≡ requests) × (o ≡ None)
  at_end_talk o none t = talk_unique false (taken ++ rest) asks requests o None (subst (λ (bs : List ℕ). IsTalk false bs asks o) (sym (ap (λ (l : List ℕ). taken ++ l) none ∙ append-nil taken)) (open_talk o t)) whole_talk

  closed_talk : is_last asks ≡ true → IsSession taken asks None → asks ≡ requests
  closed_talk last t = (talk_unique false (taken ++ rest) asks requests None None (closed_stays taken rest asks last (open_talk None t)) whole_talk).0

pub complete : (origin : Origin) (worker : ℕ) (before after : Wire) (seen seen' : List Noted) (end : SessionEnd) (s : IsServed origin worker before after seen seen' end) (bytes : List ℕ) (requests : List Asked)
    → before.left ≡ Some bytes → IsSession bytes requests None → length bytes < session_limit → (Rose before.read_faults after.read_faults → ⊥) → (Rose before.write_faults after.write_faults → ⊥)
    → ((end ≡ Ended) × (asks_of s.exchanges ≡ requests)) ⊎ (end ≡ Memory)
complete origin worker before after seen seen' Ended s bytes requests is whole short reads writes =
    let r = rest_of before.left after.left bytes s.taken is s.from in
    inl (
      refl,
      elim s.ends.1 [
        | inl at_end ↦ (at_end_talk bytes s.taken r.0 requests (asks_of s.exchanges) r.2 short whole None (subst IsAtEnd r.1 at_end) s.ends.0).0
        | inr last ↦ closed_talk bytes s.taken r.0 requests (asks_of s.exchanges) r.2 short whole last s.ends.0
      ],
    )
complete origin worker before after seen seen' Cut s bytes requests is whole short reads writes =
    let r = rest_of before.left after.left bytes s.taken is s.from in
    absurd (none_some (http.Cut s.ends.0) (at_end_talk bytes s.taken r.0 requests (asks_of s.exchanges) r.2 short whole (Some (http.Cut s.ends.0)) (subst IsAtEnd r.1 s.ends.2) s.ends.1).1)
complete origin worker before after seen seen' (Refused status) s bytes requests is whole short reads writes =
    let r = rest_of before.left after.left bytes s.taken is s.from in
    absurd (no_fault bytes s.taken r.0 requests (asks_of s.exchanges) r.2 short whole s.ends.0 (no_cut s.ends.0 s.ends.1 s.ends.3) s.ends.2)
complete origin worker before after seen seen' SessionLong s bytes requests is whole short reads writes =
    let r = rest_of before.left after.left bytes s.taken is s.from in
    absurd (no_fault bytes s.taken r.0 requests (asks_of s.exchanges) r.2 short whole http.SessionLong tt s.ends.0)
complete origin worker before after seen seen' ReadFault s bytes requests is whole short reads writes = absurd (reads s.reads.failed)
complete origin worker before after seen seen' WriteFault s bytes requests is whole short reads writes = absurd (writes s.writes.failed)
complete origin worker before after seen seen' Memory s bytes requests is whole short reads writes = inr refl
