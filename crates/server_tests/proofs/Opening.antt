-- A door more that wasn't opened.
use Rattle.std.proofs.Common.{◌≡◌, ℕ, suc, zero, ◌<◌, ◌≤◌, Bool, true, false, cond, List, [], ◌∷◌, ◌++◌, length, Option, refl, sym, ap, ◌∙◌, subst, get_or, arith}
use Rattle.outside.specs.Doors.{DoorState, Wire, with_quota}
use Rattle.site_server.specs.Chain.{IsUnopened}
use Rattle.site_service.specs.Doors.{AreUnopened}

unopened_more : {G : Type 0} (state : G → DoorState) (doors : List G) (door : G) → AreUnopened state doors → IsUnopened (state door) → AreUnopened state (doors ++ door ∷ [])
unopened_more state [] door are is zero d lt = is
unopened_more state [] door are is (suc k) d lt = absurd (omega (arith, lt))
unopened_more state (x ∷ xs) door are is zero d lt = are 0 d (omega arith)
unopened_more state (x ∷ xs) door are is (suc k) d lt = unopened_more state xs door (λ j e within. are (suc j) e (omega (arith, within))) is k d (omega (arith, lt))

-- .. where it was put behind the others
pub unopened_put : {G : Type 0} (state : G → DoorState) (doors : List G) (door : G) (put : Bool) → AreUnopened state doors → IsUnopened (state door) → AreUnopened state (cond put (doors ++ door ∷ []) doors)
unopened_put state doors door true are is = unopened_more state doors door are is
unopened_put state doors door false are is = are

-- a door with one link at most
pub unopened_new : (state : DoorState) (quota : ℕ) (told : Option (List Wire)) → state ≡ with_quota quota told → quota ≤ 1000000 → IsUnopened state
unopened_new state quota told is few = subst IsUnopened (sym is) (record { few = few; none_given = refl; none_back = refl })

-- .. of which one was put
pub few_put : {A : Type 0} (old new : List A) (x : A) (put : Bool) → old ≡ [] → new ≡ cond put (old ++ x ∷ []) old → length new ≤ 1000000
few_put old new x true none is = subst (λ n. n ≤ 1000000) (sym (ap length (is ∙ ap (λ l. l ++ x ∷ []) none))) (omega arith)
few_put old new x false none is = subst (λ n. n ≤ 1000000) (sym (ap length (is ∙ none))) (omega arith)
