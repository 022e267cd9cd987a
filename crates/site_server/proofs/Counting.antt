-- The turns of a session and the requests that were read.
use Rattle.std.proofs.Common.{◌≡◌, ◌≤◌, ◌+◌, ℕ, List, [], ◌∷◌, ◌++◌, length, Option, Some, Result, Ok, sym, refl, ap, subst, arith}
use Rattle.std.specs.Io.KnownBytes.{Consumes}
use Rattle.std.proofs.KnownBytes.{Consumes-nil, Consumes-trans}
use Rattle.std.proofs.lemmas.List.{length-append}
use Rattle.station_http.specs.declared.asked.Asked.{Asked}
use Rattle.station_http.specs.declared.stage.Stage.{Stage}
use Rattle.station_http.specs.declared.stage.Stage.TheVariants.{Open}
use Rattle.station_http.specs.Gives.{GivesAt}
use Rattle.station_http.specs.Reading.{Reading}
use Rattle.station_http.proofs.Fronts.{front_stays}
use Rattle.station_http.proofs.Sessions.{Heard, front_now, heard, silence}
use Rattle.site_server.specs.Serving.{TakesTurns}

-- what was read so far: the turns taken and the requests that wait are no more than the requests
pub record Counted (left0 left1 : Option (List ℕ)) (conn : Reading) (turns0 turns1 waiting : ℕ) : Type 0 where
  pub requests : List Asked
  pub heard : Heard left0 left1 conn requests
  pub few : turns1 + waiting ≤ turns0 + length requests

pub none_counted : (left : Option (List ℕ)) (conn : Reading) (turns waiting : ℕ) → conn.pending ≡ [] → conn.taken ≡ 0 → conn.stage ≡ Open → waiting ≡ 0 → Counted left left conn turns turns waiting
none_counted left conn turns waiting pending taken stage none = record { requests = []; heard = silence left conn [] refl pending taken stage; few = omega (arith, none) }

module _ (left0 left1 : Option (List ℕ)) (turns0 turns1 turns2 waiting : ℕ) where
  -- one request more was read
  pub one_counted : (left2 left3 : Option (List ℕ)) (stage : Stage) (old new : Reading) (o : Option Asked) (asked : Asked) (at_end : Type 0) (more : ℕ) → Counted left0 left1 old turns0 turns1 waiting
      → old.stage ≡ stage → o ≡ Some asked → (x : List ℕ) × Consumes left1 left2 x × GivesAt stage old x (Ok o) new at_end → left3 ≡ left2 → turns2 + more ≤ turns1 + waiting + 1 → Counted left0 left3 new turns0 turns2 more
  one_counted left2 left3 stage old new o asked at_end more s is some g same turns =
      let h = heard left0 left1 left2 stage old new s.requests o asked at_end s.heard is some g in
      let few = s.few in let count = length-append s.requests (asked ∷ []) in
      record {
        requests = s.requests ++ asked ∷ [];
        heard = subst (λ (l : Option (List ℕ)). Heard left0 l new (s.requests ++ asked ∷ [])) (sym same) h.0;
        few = omega (arith, few, count, turns);
      }

  -- the end, whatever else was taken
  pub counted_all : (left2 left3 : Option (List ℕ)) (conn : Reading) (x : List ℕ) (more : ℕ) → Counted left0 left1 conn turns0 turns1 waiting → Consumes left1 left2 x → left3 ≡ left2 → turns2 + more ≤ turns1 + waiting → TakesTurns left0 left3 turns0 turns2
  counted_all left2 left3 conn x more s from same turns =
      let few = s.few in
      record {
        taken = s.heard.bytes ++ x;
        requests = s.requests;
        from = subst (λ (l : Option (List ℕ)). Consumes left0 l (s.heard.bytes ++ x)) (sym same) (Consumes-trans left0 left1 left2 s.heard.bytes x s.heard.from from);
        are = front_stays s.heard.bytes x s.requests (front_now left0 left1 conn s.requests s.heard);
        few = omega (arith, few, turns);
      }

-- no request was read
pub none_taken : (left left' : Option (List ℕ)) (turns : ℕ) → left' ≡ left → TakesTurns left left' turns turns
none_taken left left' turns same = record {
  taken = [];
  requests = [];
  from = subst (λ (l : Option (List ℕ)). Consumes left l []) (sym same) (Consumes-nil left);
  are = tt;
  few = omega arith;
}
