-- Whether names differ, looked at one after the other.
use Rattle.std.proofs.Common.{◌≡◌, true, false, List, [], ◌∷◌, map, sym, ◌∙◌, refl, subst, true≢false}
use Rattle.std.specs.Prelude.{◌↔◌, ◌||◌}
use Rattle.std.specs.List.{AllByRecursion as Every, IsDistinct, list_any}
use Rattle.deed_words.specs.Names.{Text, same}

none_of : {A : Type 0} (f : A → Text) (name : Text) (xs : List A) → list_any (λ x. same name (f x)) xs ≡ false → Every (λ other. same name other ≡ false) (map f xs)
none_of f name [] e = tt
none_of {A} f name (x ∷ xs) e =
    let p : (same name (f x) ≡ false) × (list_any (λ y. same name (f y)) xs ≡ false) = (elim (same name (f x)) as (λ b. (b || list_any (λ y. same name (f y)) xs) ≡ false → (b ≡ false) × (list_any (λ y. same name (f y)) xs ≡ false)) [
      | true ↦ λ h. absurd (true≢false h)
      | false ↦ λ h. (refl, h)
    ]) e in
    (p.0, none_of f name xs p.1)

of_none : {A : Type 0} (f : A → Text) (name : Text) (xs : List A) → Every (λ other. same name other ≡ false) (map f xs) → list_any (λ x. same name (f x)) xs ≡ false
of_none f name [] a = refl
of_none f name (x ∷ xs) a = rw (a.0) (of_none f name xs a.1)

-- where none of the later names is this one, the names from here on differ as the later ones do
pub differ_on : {A : Type 0} (f : A → Text) (x : A) (left later : List A) (whole : Type 0) → left ≡ x ∷ later → list_any (λ y. same (f x) (f y)) later ≡ false
    → (IsDistinct same (map f left) ↔ whole) → (IsDistinct same (map f later) ↔ whole)
unfolding IsDistinct
differ_on f x left later whole is none so_far =
    let here : IsDistinct same (map f (x ∷ later)) ↔ whole = subst (λ ys. IsDistinct same (map f ys) ↔ whole) is so_far in
    (λ rest. here.0 (none_of f (f x) later none, rest), λ all. (here.1 all).1)

-- where one of the later names is this one, they don't all differ
pub differ_not : {A : Type 0} (f : A → Text) (x : A) (left later : List A) (whole : Type 0) → left ≡ x ∷ later → list_any (λ y. same (f x) (f y)) later ≡ true
    → (IsDistinct same (map f left) ↔ whole) → whole → false ≡ true
unfolding IsDistinct
differ_not f x left later whole is some so_far all =
    let here : IsDistinct same (map f (x ∷ later)) = subst (λ ys. IsDistinct same (map f ys)) is (so_far.1 all) in
    sym (of_none f (f x) later here.0) ∙ some
