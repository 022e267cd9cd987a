-- Answers for the items of a list, which are numbered: those that there are.
use Rattle.std.proofs.Common.{◌≡◌, ℕ, suc, ◌+◌, ◌<◌, ◌≤◌, List, [], ◌∷◌, ◌++◌, drop, length, get_or, Option, Some, None, sym, ap, ◌∙◌, append_assoc, arith}
use Rattle.std.specs.List.{filter_map, cons_option}
use Rattle.std.proofs.lemmas.List.{drop_more, drop_all, append-nil}
use Rattle.deed_words.specs.Chain.{each_from}
use Rattle.deed_words.specs.Happenings.{listed}

module _ {A B : Type 0} (answer : ℕ → A → Option B) where
  -- the answers from a number on
  abbrev pub told : ℕ → List A → List B
  told k items = filter_map (λ b. b) (each_from k answer items)

  first_told : (items : List A) (k : ℕ) (d : A) → k < length items → told k (drop k items) ≡ cons_option (answer k (get_or items k d)) (told (k + 1) (drop (k + 1) items))
  unfolding each_from
  first_told items k d l =
      let up : suc k ≡ k + 1 = omega arith in
      ap (told k) (drop_more items k d l) ∙ ap (λ (n : ℕ). cons_option (answer k (get_or items k d)) (told n (drop (k + 1) items))) up

  behind : (so rest : List B) (o : Option B) → so ++ cons_option o rest ≡ (so ++ listed o) ++ rest
  unfolding listed
  behind so rest (Some b) = sym (append_assoc so (b ∷ []) rest)
  behind so rest None = ap (λ (bs : List B). bs ++ rest) (sym (append-nil so))

  -- one item more, of which this is the answer
  pub told_more : (items : List A) (k : ℕ) (item : A) (all so new : List B) (o : Option B) → k < length items → item ≡ get_or items k item → all ≡ so ++ told k (drop k items) → o ≡ answer k item → new ≡ so ++ listed o
      → all ≡ new ++ told (k + 1) (drop (k + 1) items)
  told_more items k item all so new o l is e s n =
      e ∙ ap (λ (bs : List B). so ++ bs) (first_told items k item l ∙ ap (λ (p : Option B). cons_option p (told (k + 1) (drop (k + 1) items))) (sym (s ∙ ap (answer k) is)))
      ∙ behind so (told (k + 1) (drop (k + 1) items)) o
      ∙ ap (λ (bs : List B). bs ++ told (k + 1) (drop (k + 1) items)) (sym n)

  -- no item is left
  pub told_all : (items : List A) (k : ℕ) (all so : List B) → length items ≤ k → all ≡ so ++ told k (drop k items) → so ≡ all
  unfolding each_from
  told_all items k all so l e = sym (e ∙ ap (λ (xs : List A). so ++ told k xs) (drop_all k items l) ∙ append-nil so)
