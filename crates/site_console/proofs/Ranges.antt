-- Parts of a list, by numbers and by places.
use Rattle.std.proofs.Common.{◌≡◌, ◌≤◌, ◌<◌, ◌+◌, ◌-◌, ℕ, suc, List, [], ◌∷◌, ◌++◌, length, take, drop, refl, sym, ap, ◌∙◌, arith}
use Rattle.std.specs.Prelude.{min}
use native.Mathlib.Decide.{dec_le}
use Rattle.std.proofs.lemmas.List.{take-append-drop, drop_all, drop-drop, take_all, length-drop}

take_none : {A : Type 0} (xs : List A) (n : ℕ) → xs ≡ [] → take n xs ≡ []
take_none [] n e = take_all n [] (omega arith)
take_none (x ∷ xs) n e = absurd cc

-- what has the numbers from one on, so many, is what stands at the places from one on to before another
pub range_is : {A : Type 0} (xs : List A) (from count all first past : ℕ) → length xs ≤ all → first ≡ min (from - 1) all → past ≡ min (first + count) all → take (past - first) (drop first xs) ≡ take count (drop (from - 1) xs)
range_is {A} xs from count all first past few is to = elim (dec_le (from - 1) all) [
  | yes low ↦
      let same : first ≡ from - 1 = omega (arith, is, low) in
      let left = length-drop first xs in
      let here = ap (λ (k : ℕ). drop k xs) same in
      elim (dec_le (first + count) all) [
        | yes within ↦ let size : past - first ≡ count = omega (arith, to, within) in ap (λ (k : ℕ). take k (drop first xs)) size ∙ ap (take count) here
        | no past_all ↦
            take_all (past - first) (drop first xs) (omega (arith, left, to, past_all, few)) ∙ sym (take_all count (drop first xs) (omega (arith, left, past_all, few))) ∙ ap (take count) here
      ]
  | no high ↦
      let none : drop first xs ≡ [] = drop_all first xs (omega (arith, few, is, high)) in
      let past_it : drop (from - 1) xs ≡ [] = drop_all (from - 1) xs (omega (arith, few, high)) in
      take_none (drop first xs) (past - first) none ∙ sym (take_none (drop (from - 1) xs) count past_it)
]

-- the one at a place stands in front of those behind it
pub split_there : {A : Type 0} (xs : List A) (x : A) (place : ℕ) → x ∷ [] ≡ take 1 (drop ((place + 1) - 1) xs) → drop place xs ≡ x ∷ drop (place + 1) xs
split_there {A} xs x place one =
    let same : (place + 1) - 1 ≡ place = omega arith in
    let first : take 1 (drop place xs) ≡ x ∷ [] = ap (λ (k : ℕ). take 1 (drop k xs)) (sym same) ∙ sym one in
    sym (take-append-drop 1 (drop place xs)) ∙ ap (λ (front : List A). front ++ drop 1 (drop place xs)) first ∙ ap (λ (rest : List A). x ∷ rest) (drop-drop 1 place xs)

pub is_there : {A : Type 0} (xs : List A) (x : A) (place : ℕ) → x ∷ [] ≡ take 1 (drop ((place + 1) - 1) xs) → place < length xs
is_there xs x place one = let left = sym (length-drop place xs) ∙ ap length (split_there xs x place one) in omega (arith, left)

-- .. up to another place
pub one_more : {A : Type 0} (xs : List A) (x : A) (place past : ℕ) → x ∷ [] ≡ take 1 (drop ((place + 1) - 1) xs) → place < past → take (past - place) (drop place xs) ≡ x ∷ take (past - (place + 1)) (drop (place + 1) xs)
one_more xs x place past one there =
    let size : past - place ≡ suc (past - (place + 1)) = omega (arith, there) in
    ap (take (past - place)) (split_there xs x place one) ∙ ap (λ (k : ℕ). take k (x ∷ drop (place + 1) xs)) size

nothing_first : {A : Type 0} (xs : List A) → [] ≡ take 1 xs → xs ≡ []
nothing_first [] e = refl
nothing_first (x ∷ xs) e = absurd cc

-- none stands there
pub none_there : {A : Type 0} (xs : List A) (place : ℕ) → [] ≡ take 1 (drop ((place + 1) - 1) xs) → drop place xs ≡ []
none_there xs place none = nothing_first (drop place xs) (none ∙ ap (λ (k : ℕ). take 1 (drop k xs)) (let same : (place + 1) - 1 ≡ place = omega arith in same))

pub none_between : {A : Type 0} (xs : List A) (place count : ℕ) → drop place xs ≡ [] → take count (drop place xs) ≡ []
none_between xs place count none = take_none (drop place xs) count none

pub none_left : {A : Type 0} (xs : List A) (place : ℕ) → drop place xs ≡ [] → length xs ≤ place
none_left xs place none = let left = sym (length-drop place xs) ∙ ap length none in omega (arith, left)
