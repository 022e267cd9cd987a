-- Places in lists, and lists that grow and shrink at their end.
use Rattle.std.proofs.Common.{◌≡◌, ℕ, zero, suc, ◌-◌, ◌<◌, Bool, true, false, cond, List, [], ◌∷◌, ◌++◌, length, take, get_or, Some, None, refl, sym, ap, subst, ◌∙◌, arith, All}
use Rattle.std.specs.Prelude.{nat_lt}
use Rattle.std.specs.List.{position, position_or_len, slice_get}
use Rattle.std.proofs.lemmas.List.Sums.{position_or_len_is}
use Rattle.std.proofs.lemmas.List.{length_push, take_at, get_or_append_left, get_or_push}
use Rattle.std.proofs.lemmas.Bool.Decides.{nat_tests}
use native.Mathlib.Decide.{ℕ_discrete}

pub false_by : (t : Bool) → (t ≡ true → ⊥) → t ≡ false
false_by true n = absurd (n refl)
false_by false n = refl

-- ---- the first place that passes
cond_yes : (b : Bool) (n : ℕ) → b ≡ true → cond b (Some n) None ≡ Some n
cond_yes true n e = refl
cond_yes false n e = absurd (cc)

cond_no : (b : Bool) (n : ℕ) → b ≡ false → cond b (Some n) None ≡ None
cond_no true n e = absurd (cc)
cond_no false n e = refl

module _ {A : Type 0} (test : A → Bool) where
  pub place_is : (xs : List A) (at : ℕ) → at < length xs → position_or_len test xs ≡ at → position test xs ≡ Some at
  place_is xs at l e = cond_yes (nat_lt (position_or_len test xs) (length xs)) (position_or_len test xs) (grind (arith, nat_tests, e, l)) ∙ ap Some e

  pub nowhere : (xs : List A) → All (λ x. test x ≡ false) xs → position test xs ≡ None
  nowhere [] a = refl
  nowhere (x ∷ xs) a =
      let e : position_or_len test (x ∷ xs) ≡ length (x ∷ xs) = position_or_len_is test (x ∷ xs) (length (x ∷ xs)) x (omega arith) (λ k l. a k x l) (λ l. absurd (omega (arith, l))) in
      cond_no (nat_lt (position_or_len test (x ∷ xs)) (length (x ∷ xs))) (position_or_len test (x ∷ xs)) (grind (arith, nat_tests, e))

-- ---- one more, and one less
module _ {A : Type 0} (P : A → Type 0) (xs : List A) (x : A) where
  pub all_push : All P xs → P x → All P (xs ++ x ∷ [])
  all_push a p k d l =
      let m = length_push xs x in
      elim (ℕ_discrete k (length xs)) [
        | yes e ↦ subst P (sym (get_or_push xs x d k (sym e))) p
        | no e ↦ let q : k < length xs = omega arith in subst P (sym (get_or_append_left xs (x ∷ []) d k q)) (a k d q)
      ]

  pub all_front : All P (xs ++ x ∷ []) → All P xs
  all_front a k d l = subst P (get_or_append_left xs (x ∷ []) d k l) (a k d (omega (arith, length_push xs x)))

pub front_is : {A : Type 0} (xs : List A) (x : A) → take (length (xs ++ x ∷ []) - 1) (xs ++ x ∷ []) ≡ xs
front_is xs x = take_at xs (x ∷ []) _ (omega (arith, length_push xs x))

-- the front of a list, at any number that is one less than its length
pub front_at : {A : Type 0} (all xs : List A) (x : A) → all ≡ xs ++ x ∷ [] → take (length all - 1) all ≡ xs
front_at {A} all xs x e = ap (λ (ys : List A). take (length ys - 1) ys) e ∙ front_is xs x

-- an element that was read
pub get_or_got : {A : Type 0} (xs : List A) (at : ℕ) (x d : A) → slice_get xs at ≡ Some x → get_or xs at d ≡ x
get_or_got [] at x d e = absurd (none_is e)
  where
    none_is : None ≡ Some x → ⊥
    none_is z = cc
get_or_got (y ∷ xs) zero x d e = cc
get_or_got (y ∷ xs) (suc at) x d e = get_or_got xs at x d e
