-- The end of a session.
use Rattle.std.proofs.Common.{◌≡◌, inl, inr, ◌≤◌, ℕ, Bool, true, false, List, [], ◌∷◌, ◌++◌, length, map, drop, Option, Some, Err, sym, refl, ap, ◌∙◌, subst, arith, append-nil, MatchBool}
use Rattle.std.specs.List.{concat}
use Rattle.std.specs.Io.KnownBytes.{Consumes, Appends, IsAtEnd}
use Rattle.std.proofs.KnownBytes.{Appends-trans}
use Rattle.outside.specs.Causes.{HasCauseIf}
use Rattle.outside.specs.Doors.{wire}
use Rattle.turn_desk.specs.declared.view.Noted.{Noted}
use Rattle.turn_desk.specs.declared.view.Origin.{Origin}
use Rattle.station_http.specs.declared.fault.HttpFault.{HttpFault}
use Rattle.station_http.specs.declared.fault.HttpFault.TheVariants as http
use Rattle.station_http.specs.declared.asked.Asked.{Asked}
use Rattle.station_http.specs.Talk.{IsTalk, IsFront}
use Rattle.station_http.specs.Sessions.{IsWholeBy}
use Rattle.station_http.specs.Gives.{EndsAt, IsAlive, is_read_fault as is_read}
use Rattle.station_http.specs.Limits.{session_limit}
use Rattle.site_server.specs.declared.end.SessionEnd.{SessionEnd}
use Rattle.site_server.specs.declared.end.SessionEnd.TheVariants.{Cut, Refused, ReadFault, SessionLong, Memory}
use Rattle.site_answers.specs.declared.fault_name.FaultName.{FaultName}
use Rattle.site_answers.specs.declared.fault_name.FaultName.TheVariants as named
use Rattle.site_answers.specs.Saying.{status_of}
use Rattle.site_server.specs.Exchanges.{Exchange, text_in, asks_of, AreGiven}
use Rattle.site_server.specs.Serving.{IsServed, IsPut, IsFaultOf, EndsAs, last_text, is_read_fault, is_write_fault}
use Rattle.site_server.specs.Closing.{ClosesWith, EndsBy, end_with}
use Rattle.site_server.proofs.Goings.{concat_more}

on_close : (P P' Q Q' : Type 0) (b : Bool) → (P → P') → (Q → Q') → MatchBool b P Q → MatchBool b P' Q'
on_close P P' Q Q' true f g m = f m
on_close P P' Q Q' false f g m = g m

-- the requests of all bytes are a front of them
pub session_front : (full : Bool) (bytes : List ℕ) (requests : List Asked) (end : Option HttpFault) → IsTalk full bytes requests end → IsFront bytes requests
session_front full bytes [] end t = tt
session_front full bytes (asked ∷ more) end t =
    (t.0, t.1, on_close _ _ _ _ asked.close (λ p. p.0) (λ q. session_front full (drop t.0 bytes) more end q) t.2)

fault_front : (taken : List ℕ) (requests : List Asked) (name : FaultName) → IsFaultOf taken requests name → IsFront taken requests
fault_front taken requests name (inl f) = session_front _ taken requests (Some f.0) f.1
fault_front taken requests name (inr m) = m.1

data Which (name : FaultName) : Type 0 where
  memory : name ≡ named.Memory → Which name
  other : end_with name ≡ Refused (status_of name) → (name ≡ named.Memory → ⊥) → Which name

which : (name : FaultName) → Which name
which named.Memory = memory refl
which named.UnknownBatch = other refl (λ e. cc)
which named.UnknownItem = other refl (λ e. cc)
which named.UnknownUnit = other refl (λ e. cc)
which named.HeadTooLong = other refl (λ e. cc)
which named.BadHead = other refl (λ e. cc)
which named.ChunkedBody = other refl (λ e. cc)
which named.NoLength = other refl (λ e. cc)
which named.BodyTooLong = other refl (λ e. cc)
which named.NoRoute = other refl (λ e. cc)
which named.BadMethod = other refl (λ e. cc)

-- What stands at each end.
pub record Known (origin : Origin) (worker : ℕ) (left0 left1 held0 held1 : Option (List ℕ)) (seen0 seen1 : List Noted) (xs : List Exchange) (taken : List ℕ) : Type 0 where
  pub from : Consumes left0 left1 taken
  pub within : length taken ≤ session_limit
  pub to : Appends held0 held1 (concat (map text_in xs))
  pub given : AreGiven origin worker seen0 xs seen1
  pub few : length (asks_of xs) ≤ length taken

module _ (origin : Origin) (worker : ℕ) (left0 left1 held0 held1 held2 : Option (List ℕ)) (r0 r1 w0 w1 : ℕ) (seen0 seen1 : List Noted) (xs : List Exchange) (taken : List ℕ) where
  -- the last answer was put, whole
  whole_answer : (end : SessionEnd) (text put : List ℕ) → is_write_fault end ≡ false → Known origin worker left0 left1 held0 held1 seen0 seen1 xs taken → Appends held1 held2 put → put ≡ text
      → EndsAs end taken (asks_of xs) left1 (text ∷ []) → HasCauseIf (is_read_fault end) r0 r1 → HasCauseIf (is_write_fault end) w0 w1 → IsServed origin worker (wire left0 held0 r0 w0) (wire left1 held2 r1 w1) seen0 seen1 end
  whole_answer end text put no_fault k to is ends reads writes = record {
    taken = taken;
    put = concat (map text_in xs) ++ put;
    exchanges = xs;
    closing = text ∷ [];
    from = k.from;
    to = Appends-trans held0 held1 held2 (concat (map text_in xs)) put k.to to;
    within = k.within;
    answers = subst (λ (b : Bool). IsPut b (map text_in xs ++ text ∷ []) (concat (map text_in xs) ++ put)) (sym no_fault)
        (ap (λ (l : List ℕ). concat (map text_in xs) ++ l) is ∙ sym (concat_more (map text_in xs) text));
    given = k.given;
    ends = ends;
    few = k.few;
    reads = reads;
    writes = writes;
  }

  -- no last answer is owed
  pub no_answer : (end : SessionEnd) → is_write_fault end ≡ false → Known origin worker left0 left1 held0 held1 seen0 seen1 xs taken
      → EndsAs end taken (asks_of xs) left1 [] → HasCauseIf (is_read_fault end) r0 r1 → HasCauseIf (is_write_fault end) w0 w1 → IsServed origin worker (wire left0 held0 r0 w0) (wire left1 held1 r1 w1) seen0 seen1 end
  no_answer end no_fault k ends reads writes = record {
    taken = taken;
    put = concat (map text_in xs);
    exchanges = xs;
    closing = [];
    from = k.from;
    to = k.to;
    within = k.within;
    answers = subst (λ (b : Bool). IsPut b (map text_in xs ++ []) (concat (map text_in xs))) (sym no_fault) (ap concat (sym (append-nil (map text_in xs))));
    given = k.given;
    ends = ends;
    few = k.few;
    reads = reads;
    writes = writes;
  }

  -- a fault was answered, or its put failed
  pub answered : (name : FaultName) (end : SessionEnd) (put : List ℕ) → Known origin worker left0 left1 held0 held1 seen0 seen1 xs taken → IsFaultOf taken (asks_of xs) name → Appends held1 held2 put → ClosesWith name end put
      → r1 ≡ r0 → HasCauseIf (is_write_fault end) w0 w1 → IsServed origin worker (wire left0 held0 r0 w0) (wire left1 held2 r1 w1) seen0 seen1 end
  answered name end put k fault to (inl part) same writes = subst (λ (e : SessionEnd). IsServed origin worker (wire left0 held0 r0 w0) (wire left1 held2 r1 w1) seen0 seen1 e) (sym part.0) (record {
    taken = taken;
    put = concat (map text_in xs) ++ put;
    exchanges = xs;
    closing = last_text name ∷ [];
    from = k.from;
    to = Appends-trans held0 held1 held2 (concat (map text_in xs)) put k.to to;
    within = k.within;
    answers = (map text_in xs, last_text name, put, refl, refl, part.1);
    given = k.given;
    ends = (fault_front taken (asks_of xs) name fault, inr (name, fault, refl));
    few = k.few;
    reads = record { later = omega (arith, same); failed = tt; kept = same };
    writes = subst (λ (e : SessionEnd). HasCauseIf (is_write_fault e) w0 w1) part.0 writes;
  })
  answered name end put k fault to (inr all) same writes =
      subst (λ (e : SessionEnd). IsServed origin worker (wire left0 held0 r0 w0) (wire left1 held2 r1 w1) seen0 seen1 e) (sym all.0)
      (elim (which name) [
        | memory is ↦ by_memory is
        | other is not ↦ by_other is not fault
      ])
    where
      writes' : HasCauseIf (is_write_fault (end_with name)) w0 w1
      writes' = subst (λ (e : SessionEnd). HasCauseIf (is_write_fault e) w0 w1) all.0 writes

      by_memory : name ≡ named.Memory → IsServed origin worker (wire left0 held0 r0 w0) (wire left1 held2 r1 w1) seen0 seen1 (end_with name)
      by_memory is = let e : end_with name ≡ Memory = ap end_with is in
          subst (λ (e : SessionEnd). IsServed origin worker (wire left0 held0 r0 w0) (wire left1 held2 r1 w1) seen0 seen1 e) (sym e)
          (whole_answer Memory (last_text named.Memory) put refl k to (all.1 ∙ ap last_text is) (fault_front taken (asks_of xs) name fault, refl) (record { later = omega (arith, same); failed = tt; kept = same })
          (subst (λ (e : SessionEnd). HasCauseIf (is_write_fault e) w0 w1) e writes'))

      by_other : end_with name ≡ Refused (status_of name) → (name ≡ named.Memory → ⊥) → IsFaultOf taken (asks_of xs) name → IsServed origin worker (wire left0 held0 r0 w0) (wire left1 held2 r1 w1) seen0 seen1 (end_with name)
      by_other e not (inl f) =
          subst (λ (e : SessionEnd). IsServed origin worker (wire left0 held0 r0 w0) (wire left1 held2 r1 w1) seen0 seen1 e) (sym e)
          (whole_answer (Refused (status_of name)) (last_text name) put refl k to all.1 (f.0, name, f.1, f.2, refl, refl) (record { later = omega (arith, same); failed = tt; kept = same })
          (subst (λ (e : SessionEnd). HasCauseIf (is_write_fault e) w0 w1) e writes'))
      by_other e not (inr m) = absurd (not m.0)

  known_still : Known origin worker left0 left1 held0 held1 seen0 seen1 xs taken → (put : List ℕ) → Appends held1 held2 put → put ≡ [] → Known origin worker left0 left1 held0 held2 seen0 seen1 xs taken
  known_still k put to none = record {
    from = k.from;
    within = k.within;
    to = subst (λ (l : List ℕ). Appends held0 held2 l) (ap (λ (l : List ℕ). concat (map text_in xs) ++ l) none ∙ append-nil (concat (map text_in xs)))
        (Appends-trans held0 held1 held2 (concat (map text_in xs)) put k.to to);
    given = k.given;
    few = k.few;
  }

module _ (origin : Origin) (worker : ℕ) (left0 left1 held0 held1 held2 : Option (List ℕ)) (r0 r1 w0 w1 : ℕ) (seen0 seen1 : List Noted) (xs : List Exchange) (taken : List ℕ) where
  quiet : (e end : SessionEnd) (put : List ℕ) → is_write_fault e ≡ false → Known origin worker left0 left1 held0 held1 seen0 seen1 xs taken → EndsAs e taken (asks_of xs) left1 [] → Appends held1 held2 put → end ≡ e → put ≡ []
      → HasCauseIf (is_read_fault e) r0 r1 → HasCauseIf (is_write_fault end) w0 w1 → IsServed origin worker (wire left0 held0 r0 w0) (wire left1 held2 r1 w1) seen0 seen1 end
  quiet e end put no_fault k ends to is none reads writes =
      subst (λ (e : SessionEnd). IsServed origin worker (wire left0 held0 r0 w0) (wire left1 held2 r1 w1) seen0 seen1 e) (sym is)
      (no_answer origin worker left0 left1 held0 held2 held2 r0 r1 w0 w1 seen0 seen1 xs taken e no_fault (known_still origin worker left0 left1 held0 held1 held2 r0 r1 w0 w1 seen0 seen1 xs taken k put to none) ends reads
      (subst (λ (e : SessionEnd). HasCauseIf (is_write_fault e) w0 w1) is writes))

  -- the session ended by a fault of the connection
  pub faulted_so : (fault : HttpFault) (end : SessionEnd) (put : List ℕ) → Known origin worker left0 left1 held0 held1 seen0 seen1 xs taken → IsWholeBy taken (asks_of xs) (Err fault)
      → EndsAt (IsAtEnd left1) fault → IsAlive fault → Appends held1 held2 put → EndsBy fault end put → HasCauseIf (is_read {T = Option Asked} (Err fault)) r0 r1 → HasCauseIf (is_write_fault end) w0 w1
      → IsServed origin worker (wire left0 held0 r0 w0) (wire left1 held2 r1 w1) seen0 seen1 end
  faulted_so http.Spent end put k by at_end alive to ends reads writes = absurd alive
  faulted_so http.ReadFault end put k by at_end alive to ends reads writes = quiet ReadFault end put refl k (by.0, by.1, refl) to ends.1 ends.2 reads writes
  faulted_so http.SessionLong end put k by at_end alive to ends reads writes = quiet SessionLong end put refl k (by, refl) to ends.1 ends.2 reads writes
  faulted_so (http.Cut n) end put k by at_end alive to ends reads writes = quiet Cut end put refl k (n, by, at_end, refl) to ends.1 ends.2 reads writes
  faulted_so http.Memory end put k by at_end alive to ends reads writes = answered origin worker left0 left1 held0 held1 held2 r0 r1 w0 w1 seen0 seen1 xs taken named.Memory end put k (inr (refl, by)) to ends reads.kept writes
  faulted_so http.HeadTooLong end put k by at_end alive to ends reads writes = answered origin worker left0 left1 held0 held1 held2 r0 r1 w0 w1 seen0 seen1 xs taken named.HeadTooLong end put k (inl (http.HeadTooLong, by, refl)) to ends reads.kept writes
  faulted_so http.BadHead end put k by at_end alive to ends reads writes = answered origin worker left0 left1 held0 held1 held2 r0 r1 w0 w1 seen0 seen1 xs taken named.BadHead end put k (inl (http.BadHead, by, refl)) to ends reads.kept writes
  faulted_so http.ChunkedBody end put k by at_end alive to ends reads writes = answered origin worker left0 left1 held0 held1 held2 r0 r1 w0 w1 seen0 seen1 xs taken named.ChunkedBody end put k (inl (http.ChunkedBody, by, refl)) to ends reads.kept writes
  faulted_so http.NoLength end put k by at_end alive to ends reads writes = answered origin worker left0 left1 held0 held1 held2 r0 r1 w0 w1 seen0 seen1 xs taken named.NoLength end put k (inl (http.NoLength, by, refl)) to ends reads.kept writes
  faulted_so http.BodyTooLong end put k by at_end alive to ends reads writes = answered origin worker left0 left1 held0 held1 held2 r0 r1 w0 w1 seen0 seen1 xs taken named.BodyTooLong end put k (inl (http.BodyTooLong, by, refl)) to ends reads.kept writes
  faulted_so http.NoRoute end put k by at_end alive to ends reads writes = answered origin worker left0 left1 held0 held1 held2 r0 r1 w0 w1 seen0 seen1 xs taken named.NoRoute end put k (inl (http.NoRoute, by, refl)) to ends reads.kept writes
  faulted_so http.BadMethod end put k by at_end alive to ends reads writes = answered origin worker left0 left1 held0 held1 held2 r0 r1 w0 w1 seen0 seen1 xs taken named.BadMethod end put k (inl (http.BadMethod, by, refl)) to ends reads.kept writes
