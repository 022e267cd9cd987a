-- Passes and doors are the workers' in the other direction.
use Rattle.std.proofs.Common.{◌≡◌, ◌⊎◌, inl, inr, ℕ, zero, suc, ◌+◌, ◌-◌, ◌<◌, ◌≤◌, ◌^◌, ◌==◌, Bool, true, false, ◌||◌, List, [], ◌∷◌, ◌++◌, length, map, reverse, get_or, refl, sym, ap, ◌∙◌, subst, arith}
use Rattle.std.specs.List.{list_any}
use Rattle.std.proofs.lemmas.List.{get_or-reverse, get_or-map, length-reverse}
use Rattle.outside.specs.Causes.{Rose, HasCauseIf}
use Rattle.outside.specs.Doors.{DoorState}
use Rattle.turn_desk.specs.declared.view.Noted.{Noted}
use Rattle.turn_desk.specs.declared.view.Origin.{Origin}
use Rattle.turn_desk.specs.Notes.{own, Begins}
use Rattle.turn_desk.specs.Tokens.{Place, Token, IsCrew, IsFresh, Tells}
use Rattle.site_service.specs.declared.worker.Worker.{Worker}
use Rattle.site_server.specs.Chain.{Serves, IsUnopened}
use Rattle.site_service.specs.Workers.{pass_of, door_of, has_failed, IsReady, HasWorked}
use Rattle.site_service.specs.Doors.{AreUnopened, IsDoorDone, AllServed}

length-map' : {A B : Type 0} (f : A → B) (xs : List A) → length (map f xs) ≡ length xs
length-map' f [] = refl
length-map' f (x ∷ xs) = ap suc (length-map' f xs)

by_test : (R : Type 0) (b : Bool) → (b ≡ true → R) → (b ≡ false → R) → R
by_test R true p q = p refl
by_test R false p q = q refl

any_at : {A : Type 0} (p : A → Bool) (xs : List A) → list_any p xs ≡ true → (j : ℕ) × (j < length xs) × ((d : A) → p (get_or xs j d) ≡ true)
any_at p [] h = absurd (no_true h)
  where
    no_true : false ≡ true → ⊥
    no_true e = cc
any_at {A} p (x ∷ xs) h =
    by_test ((j : ℕ) × (j < length (x ∷ xs)) × ((d : A) → p (get_or (x ∷ xs) j d) ≡ true)) (p x)
    (λ t. (0, omega arith, λ d. t))
    (λ f. let r = any_at p xs (sym (ap (λ (b : Bool). b || list_any p xs) f) ∙ h) in let lt = r.1 in (suc r.0, omega (arith, lt), r.2))

or_none : (a b : Bool) → (a || b) ≡ false → (a ≡ false) × (b ≡ false)
or_none true b h = absurd (no_false h)
  where
    no_false : true ≡ false → ⊥
    no_false e = cc
or_none false b h = (refl, h)

none_at : {A : Type 0} (p : A → Bool) (xs : List A) → list_any p xs ≡ false → (j : ℕ) (d : A) → j < length xs → p (get_or xs j d) ≡ false
none_at p [] h j d lt = absurd (omega (arith, lt))
none_at p (x ∷ xs) h zero d lt = (or_none (p x) (list_any p xs) h).0
none_at p (x ∷ xs) h (suc j) d lt = none_at p xs ((or_none (p x) (list_any p xs) h).1) j d (omega (arith, lt))

module _ {G : Type 0} where
  pub long_rev : {A : Type 0} (f : Worker G → A) (ws : List (Worker G)) (xs : List A) → xs ≡ reverse (map f ws) → length xs ≡ length ws
  long_rev f ws xs is = ap length is ∙ (length-reverse (map f ws) ∙ length-map' f ws)

  at_rev : {A : Type 0} (f : Worker G → A) (ws : List (Worker G)) (xs : List A) → xs ≡ reverse (map f ws) → (k j : ℕ) (w : Worker G) (x : A) → k + suc j ≡ length ws → get_or xs k x ≡ f (get_or ws j w)
  at_rev {A} f ws xs is k j w x there =
      let len : length (map f ws) ≡ length ws = length-map' f ws in
      let place : length (map f ws) - 1 - k ≡ j = omega (arith, len, there) in
      ap (λ (l : List A). get_or l k x) is ∙ (get_or-reverse (map f ws) k x (omega (arith, len, there)) ∙ (ap (λ (i : ℕ). get_or (map f ws) i x) place ∙ get_or-map f ws j w x (omega (arith, there))))

  module _ (state : G → DoorState) where
    pub ready : (d : Place) (ps : List Token) (ds : List G) (ws : List (Worker G)) → ps ≡ reverse (map pass_of ws) → ds ≡ reverse (map door_of ws) → IsCrew d ps → IsFresh ps
        → AreUnopened state ds → (j : ℕ) (w : Worker G) → j < length ws → IsReady state d (get_or ws j w)
    ready d ps ds ws is is' crew fresh few j w lt =
        let k : ℕ = length ws - suc j in let there : k + suc j ≡ length ws = omega (arith, lt) in
        let p = at_rev pass_of ws ps is k j w w.pass there in let g = at_rev door_of ws ds is' k j w w.door there in
        let lt' : k < length ps = omega (arith, lt, long_rev pass_of ws ps is) in let lt'' : k < length ds = omega (arith, lt, long_rev door_of ws ds is') in
        record {
          desk = ap (λ (t : Token). t.desk) (sym p) ∙ (crew k w.pass lt').0;
          turns = ap (λ (t : Token). t.turns) (sym p) ∙ (fresh k w.pass lt').1;
          seen = ap (λ (t : Token). t.seen) (sym p) ∙ (fresh k w.pass lt').0;
          unopened = subst (λ (z : G). IsUnopened (state z)) g (few k w.door lt'');
        }

    pub crew_again : (d : Place) (ps ps' : List Token) (ws ws' : List (Worker G)) → ps ≡ reverse (map pass_of ws) → ps' ≡ reverse (map pass_of ws') → length ws' ≡ length ws
        → ((j : ℕ) (w : Worker G) → j < length ws → HasWorked state d (get_or ws j w) (get_or ws' j w)) → IsCrew d ps → Worker G → IsCrew d ps'
    crew_again d ps ps' ws ws' is is' len worked crew w k x lt =
        let n' = long_rev pass_of ws' ps' is' in let n = long_rev pass_of ws ps is in
        let j : ℕ = length ws - suc k in let there : k + suc j ≡ length ws = omega (arith, lt, n', len) in
        let p = at_rev pass_of ws ps is k j w x there in let p' = at_rev pass_of ws' ps' is' k j w x (there ∙ sym len) in
        let s = worked j w (omega (arith, there)) in let c = crew k x (omega (arith, there, n)) in (
          ap (λ (t : Token). t.desk) p' ∙ s.desk,
          ap (λ (t : Token). t.worker) p' ∙ (s.worker ∙ (ap (λ (t : Token). t.worker) (sym p) ∙ c.1)),
          ap (λ (t : Token). t.last) p' ∙ (s.last ∙ (ap (λ (t : Token). t.last) (sym p) ∙ (c.2 ∙ ap (λ (m : ℕ). suc k == m) (n ∙ (sym len ∙ sym n'))))),
        )

    pub all_served : (d : Place) (ps ps' : List Token) (ds ds' : List G) (ws ws' : List (Worker G)) (notes : List Noted) → ps ≡ reverse (map pass_of ws) → ps' ≡ reverse (map pass_of ws')
        → ds ≡ reverse (map door_of ws) → ds' ≡ reverse (map door_of ws') → length ws' ≡ length ws
        → ((j : ℕ) (w : Worker G) → j < length ws → HasWorked state d (get_or ws j w) (get_or ws' j w)) → IsCrew d ps → IsFresh ps → Worker G → Tells ps' notes
        → AllServed state d.origin ds ds' notes (list_any has_failed ws')
    all_served d ps ps' ds ds' ws ws' notes is is' ds_is ds_is' len worked crew fresh w tells = record {
      long = m' ∙ (len ∙ sym m);
      each = λ k x lt.
          let j : ℕ = length ws - suc k in let there : k + suc j ≡ length ws = omega (arith, lt, m) in let here : k + suc j ≡ length ws' = there ∙ sym len in
          let v : Worker G = get_or ws j w in let u : Worker G = get_or ws' j w in
          let p = at_rev pass_of ws ps is k j w w.pass there in let p' = at_rev pass_of ws' ps' is' k j w w.pass here in
          let g = at_rev door_of ws ds ds_is k j w x there in let g' = at_rev door_of ws' ds' ds_is' k j w x here in
          let s = worked j w (omega (arith, there)) in let c = crew k w.pass (omega (arith, there, n)) in let f = fresh k w.pass (omega (arith, there, n)) in
          let t = tells.each k w.pass (omega (arith, here, n')) in
          let number : v.pass.worker ≡ k = ap (λ (z : Token). z.worker) (sym p) ∙ c.1 in let nothing : v.pass.seen ≡ [] = ap (λ (z : Token). z.seen) (sym p) ∙ f.0 in
          record {
            used_up = ap (λ (z : G). (state z).quota) g' ∙ s.worked.used_up;
            all_back = ap (λ (z : G). (state z).back) g' ∙ (s.worked.all_back ∙ ap (λ (z : G). (state z).given) (sym g'));
            seen = u.pass.seen;
            serves = subst (λ (z : G). Serves d.origin k (state (get_or ds k x)) (state z) [] u.pass.seen) (sym g')
                (subst (λ (z : G). Serves d.origin k (state z) (state u.door) [] u.pass.seen) (sym g)
                (subst (λ (z : ℕ × List Noted). Serves d.origin z.0 (state v.door) (state u.door) z.1 u.pass.seen) (λ i. (number i, nothing i)) s.worked.serves));
            begins = subst (λ (z : Token). Begins z.seen notes) p' t.0;
            own_are = t.1 ∙ ap (λ (z : Token). own k z.seen) p';
          };
      none = λ k le. tells.none k (omega (arith, le, m, len, n'));
      rose = λ h.
          let r = any_at has_failed ws' h in let lt = r.1 in let j : ℕ = r.0 in let k : ℕ = length ws - suc j in let there : k + suc j ≡ length ws = omega (arith, lt, len) in let here : k + suc j ≡ length ws' = there ∙ sym len in (
            k,
            omega (arith, there, m),
            λ x. let s = (worked j w (omega (arith, there))).worked.failed_so in
                let v : Worker G = get_or ws j w in let u : Worker G = get_or ws' j w in
                let c = subst (λ (b : Bool). HasCauseIf b ((state v.door).faults) ((state u.door).faults)) (r.2 w) s in
                subst (λ (z : G). Rose ((state z).faults) ((state (get_or ds' k x)).faults)) (sym (at_rev door_of ws ds ds_is k j w x there))
                (subst (λ (z : G). Rose ((state v.door).faults) ((state z).faults)) (sym (at_rev door_of ws' ds' ds_is' k j w x here)) c.failed),
          );
      stood = λ h k x lt.
          let j : ℕ = length ws - suc k in let there : k + suc j ≡ length ws = omega (arith, lt, m) in let here : k + suc j ≡ length ws' = there ∙ sym len in
          let v : Worker G = get_or ws j w in let u : Worker G = get_or ws' j w in
          let c = subst (λ (b : Bool). HasCauseIf b ((state v.door).faults) ((state u.door).faults)) (none_at has_failed ws' h j w (omega (arith, here))) (worked j w (omega (arith, there))).worked.failed_so in
          ap (λ (z : G). (state z).faults) (at_rev door_of ws' ds' ds_is' k j w x here) ∙ (c.kept ∙ ap (λ (z : G). (state z).faults) (sym (at_rev door_of ws ds ds_is k j w x there)));
    }
      where
        m : length ds ≡ length ws
        m = long_rev door_of ws ds ds_is

        m' : length ds' ≡ length ws'
        m' = long_rev door_of ws' ds' ds_is'

        n : length ps ≡ length ws
        n = long_rev pass_of ws ps is

        n' : length ps' ≡ length ws'
        n' = long_rev pass_of ws' ps' is'

pub first_of_row : {A : Type 0} (xs : List A) → 0 < length xs → A
first_of_row [] lt = absurd (omega arith)
first_of_row (x ∷ xs) lt = x
