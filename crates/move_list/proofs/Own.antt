-- The moves of a batch, by their places.
use Rattle.std.proofs.Common.{◌≡◌, ◌<◌, ◌≤◌, ◌-◌, ℕ, zero, suc, Bool, true, false, cond, nat_eq, List, [], ◌∷◌, map, length, get_or, refl, ap, ◌∙◌, arith}
use Rattle.std.specs.Prelude.{filter}
use Rattle.std.specs.List.{AllByRecursion as Every}
use Rattle.row_lists.specs.Lists.{places_from, is_group}

pub own_count : {A : Type 0} (test : A → Bool) (f : A → ℕ) (b at : ℕ) (xs : List A) → Every (λ x. test x ≡ nat_eq (f x) b) xs → length (filter test xs) ≡ length (places_from (is_group b) at (map f xs))
own_count test f b at [] all = refl
own_count {A} test f b at (x ∷ xs) all =
    let rest = own_count test f b (suc at) xs all.1 in
    ap (λ (t : Bool). length (cond t (x ∷ filter test xs) (filter test xs))) all.0
    ∙ (elim (nat_eq (f x) b) as (λ (t : Bool). length (cond t (x ∷ filter test xs) (filter test xs)) ≡ length (cond t (at ∷ places_from (is_group b) (suc at) (map f xs)) (places_from (is_group b) (suc at) (map f xs)))) [
      | true ↦ ap suc rest
      | false ↦ rest
    ])

further : {A : Type 0} (x : A) (xs : List A) (d : A) (p at : ℕ) → suc at ≤ p → get_or xs (p - suc at) d ≡ get_or (x ∷ xs) (p - at) d
further x xs d p at l = let e : suc (p - suc at) ≡ p - at = omega (arith, l) in ap (λ (n : ℕ). get_or (x ∷ xs) n d) e

-- the place of one of the batch, and what stands there
abbrev pub IsAt : {A : Type 0} → List A → List A → List ℕ → ℕ → A → ℕ → Type 0
IsAt kept xs places at d k = (at ≤ get_or places k 0) × (get_or kept k d ≡ get_or xs (get_or places k 0 - at) d)

own_first : {A : Type 0} (x : A) (kept xs : List A) (places : List ℕ) (at : ℕ) (d : A) → ((k : ℕ) → k < length places → IsAt kept xs places (suc at) d k) → (k : ℕ) → k < suc (length places) → IsAt (x ∷ kept) (x ∷ xs) (at ∷ places) at d k
own_first x kept xs places at d h zero l = let e : 0 ≡ at - at = omega arith in (omega arith, ap (λ (n : ℕ). get_or (x ∷ xs) n d) e)
own_first x kept xs places at d h (suc k) l =
    let rest = h k (omega (arith, l)) in
    let low = rest.0 in
    (omega (arith, low), rest.1 ∙ further x xs d (get_or places k 0) at rest.0)

own_other : {A : Type 0} (x : A) (kept xs : List A) (places : List ℕ) (at : ℕ) (d : A) (k : ℕ) → IsAt kept xs places (suc at) d k → IsAt kept (x ∷ xs) places at d k
own_other x kept xs places at d k rest = let low = rest.0 in (omega (arith, low), rest.1 ∙ further x xs d (get_or places k 0) at rest.0)

own_step : {A : Type 0} (x : A) (kept xs : List A) (places : List ℕ) (at : ℕ) (d : A) (t u : Bool) → u ≡ t → ((k : ℕ) → k < length places → IsAt kept xs places (suc at) d k)
    → (k : ℕ) → k < length (cond t (at ∷ places) places) → IsAt (cond u (x ∷ kept) kept) (x ∷ xs) (cond t (at ∷ places) places) at d k
own_step x kept xs places at d true true e h k l = own_first x kept xs places at d h k l
own_step x kept xs places at d true false e h k l = absurd (cc)
own_step x kept xs places at d false true e h k l = absurd (cc)
own_step x kept xs places at d false false e h k l = own_other x kept xs places at d k (h k l)

pub own_at : {A : Type 0} (test : A → Bool) (f : A → ℕ) (b at : ℕ) (xs : List A) → Every (λ x. test x ≡ nat_eq (f x) b) xs → (k : ℕ) (d : A) → k < length (places_from (is_group b) at (map f xs))
    → IsAt (filter test xs) xs (places_from (is_group b) at (map f xs)) at d k
own_at test f b at [] all k d l = absurd (omega (arith, l))
own_at test f b at (x ∷ xs) all k d l =
    own_step x (filter test xs) xs (places_from (is_group b) (suc at) (map f xs)) at d (nat_eq (f x) b) (test x) all.0 (λ j m. own_at test f b (suc at) xs all.1 j d m) k l
