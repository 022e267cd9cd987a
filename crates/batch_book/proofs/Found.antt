-- What is found in a list of names, by what is found in the list by number.
use Rattle.std.proofs.Common.{◌≡◌, ℕ, zero, suc, ◌+◌, ◌<◌, ◌≤◌, ◌&&◌, ◌||◌, Bool, true, false, eqb, cond, List, [], ◌∷◌, ◌++◌, length, map, get_or, Option, Some, None, refl, sym, ap, ◌∙◌, arith}
use Rattle.std.specs.Prelude.{find, filter, reverse, option_map, nat_lt}
use Rattle.std.specs.List.{IsDistinct, slice_get, position, position_or_len, list_any}
use Rattle.std.specs.Cmp.{IsEquivalence}
use Rattle.std.proofs.lemmas.List.{reverse-append, map-append}
use Rattle.std.proofs.lemmas.List.Sums.{fails_before_first}
use Rattle.std.proofs.lemmas.List.Quantifiers.{position-Some}
use Rattle.std.proofs.lemmas.Option.{slice_get_within, slice_get-get_or}
use Rattle.std.proofs.lemmas.Map.Keys.{apart_from_distinct}
use Rattle.std.proofs.lemmas.Bool.{eq-eqb, ne_eqb, and_parts}
use Rattle.std.proofs.lemmas.Bool.Decides.{nat_tests}
use native.Mathlib.Decide.{dec_lt, ℕ_discrete}
use Rattle.deed_words.specs.Chain.{each, each_from, first}
use Rattle.batch_book.specs.Closing.{IsFirstIn, IsFirstFor}
use Rattle.batch_book.proofs.Lists.{get_or_got}

none_some : {A : Type 0} (x : A) → None ≡ Some x → ⊥
none_some x e = cc

-- of distinct keys two are the same exactly where their places are
pub distinct_at : {K : Type 0} (same : K → K → Bool) → IsEquivalence same → (keys : List K) → IsDistinct same keys → (d : K) (i j : ℕ) → i < length keys → j < length keys → same (get_or keys i d) (get_or keys j d) ≡ eqb i j
distinct_at same equal keys a d i j l m = elim (ℕ_discrete i j) [
  | yes e ↦ ap (λ k. same (get_or keys k d) (get_or keys j d)) e ∙ equal.refl (get_or keys j d) ∙ sym (eq-eqb i j e)
  | no ne ↦
      (elim (dec_lt i j) as (λ x. same (get_or keys i d) (get_or keys j d) ≡ false) [
        | yes b ↦ apart_from_distinct same keys i j d a b m
        | no b ↦ equal.symm (get_or keys i d) (get_or keys j d) ∙ apart_from_distinct same keys j i d a (omega (arith, b, ne)) l
      ])
      ∙ sym (ne_eqb i j ne)
]

none_length : {A : Type 0} (test : A → Bool) (xs : List A) → position test xs ≡ None → length xs ≤ position_or_len test xs
none_length test xs e = cases (nat_lt (position_or_len test xs) (length xs)) refl e
  where
    cases : (b : Bool) → nat_lt (position_or_len test xs) (length xs) ≡ b → cond b (Some (position_or_len test xs)) None ≡ None → length xs ≤ position_or_len test xs
    cases true t f = absurd (cc)
    cases false t f = grind (arith, nat_tests, t)

-- the first place that passes, in the words of the walks
pub first_position : {A : Type 0} (test : A → Bool) (xs : List A) (place : Option ℕ) → position test xs ≡ place → IsFirstIn (λ k x. test x) xs place
first_position test xs None e = λ k x f.
    ap test (sym (get_or_got xs k x x f)) ∙ fails_before_first test xs k x (omega (arith, slice_get_within xs k x f, none_length test xs e))
first_position test [] (Some at) e = absurd (none_some at e)
first_position test (x ∷ xs) (Some at) e =
    let p = position-Some test (x ∷ xs) at x e in
    ((get_or (x ∷ xs) at x, slice_get-get_or (x ∷ xs) at x p.0, p.1), λ k y l f. ap test (sym (get_or_got (x ∷ xs) k y x f)) ∙ p.2 k l)

pub find_plain : {A : Type 0} (test : A → Bool) (xs : List A) (at : ℕ) (x : A) → slice_get xs at ≡ Some x → test x ≡ true → ((k : ℕ) (y : A) → k < at → slice_get xs k ≡ Some y → test y ≡ false) → find test xs ≡ Some x
find_plain test [] at x e t n = absurd (none_some x e)
find_plain test (y ∷ xs) zero x e t n =
    let s : y ≡ x = cc in
    ap (λ b. cond b (Some y) (find test xs)) (ap test s ∙ t) ∙ ap Some s
find_plain test (y ∷ xs) (suc at) x e t n =
    ap (λ b. cond b (Some y) (find test xs)) (n 0 y (omega arith) refl) ∙ find_plain test xs at x e t (λ k z l g. n (suc k) z (omega (arith, l)) g)

-- ---- found in a list that is filtered and mapped
module _ {A B : Type 0} (f : A → B) (own test : B → Bool) where
  skip : (y : B) (rest : List B) (a : Bool) → own y ≡ a → (own y && test y) ≡ false → find test (cond (own y) (y ∷ rest) rest) ≡ find test rest
  skip y rest true e n = ap (λ b. find test (cond b (y ∷ rest) rest)) e ∙ ap (λ b. cond b (Some y) (find test rest)) (sym (ap (λ b. b && test y) e) ∙ n)
  skip y rest false e n = ap (λ b. find test (cond b (y ∷ rest) rest)) e

  pub find_there : (xs : List A) (at : ℕ) (x : A) → slice_get xs at ≡ Some x → own (f x) ≡ true → test (f x) ≡ true
      → ((k : ℕ) (y : A) → k < at → slice_get xs k ≡ Some y → (own (f y) && test (f y)) ≡ false) → find test (filter own (map f xs)) ≡ Some (f x)
  find_there [] at x e o t n = absurd (none_some x e)
  find_there (y ∷ xs) zero x e o t n =
      let s : y ≡ x = cc in
      let rest : List B = filter own (map f xs) in
      ap (λ (z : A). find test (cond (own (f z)) (f z ∷ rest) rest)) s
      ∙ ap (λ b. find test (cond b (f x ∷ rest) rest)) o
      ∙ ap (λ b. cond b (Some (f x)) (find test rest)) t
  find_there (y ∷ xs) (suc at) x e o t n =
      skip (f y) (filter own (map f xs)) (own (f y)) refl (n 0 y (omega arith) refl)
      ∙ find_there xs at x e o t (λ k z l g. n (suc k) z (omega (arith, l)) g)

  pub find_nowhere : (xs : List A) → ((k : ℕ) (y : A) → slice_get xs k ≡ Some y → (own (f y) && test (f y)) ≡ false) → find test (filter own (map f xs)) ≡ None
  find_nowhere [] n = refl
  find_nowhere (y ∷ xs) n = skip (f y) (filter own (map f xs)) (own (f y)) refl (n 0 y refl) ∙ find_nowhere xs (λ k z g. n (suc k) z g)

-- the same, by what the walks tell
module _ {A B : Type 0} (f : A → B) (own test : B → Bool) (mine : A → Bool) (number : ℕ → A → Bool) (xs : List A)
    (owned : (x : A) → own (f x) ≡ mine x) (agree : (k : ℕ) (x : A) → slice_get xs k ≡ Some x → test (f x) ≡ number k x) where
  both : (k : ℕ) (x : A) → slice_get xs k ≡ Some x → (own (f x) && test (f x)) ≡ (mine x && number k x)
  both k x e = λ z. owned x z && agree k x e z

  pub first_there : (at : ℕ) (x : A) → slice_get xs at ≡ Some x → IsFirstIn (λ k y. mine y && number k y) xs (Some at) → find test (filter own (map f xs)) ≡ Some (f x)
  first_there at x e h =
      let g : Some h.0.0 ≡ Some x = sym h.0.1 ∙ e in
      let s : h.0.0 ≡ x = cc in
      let t = and_parts (mine x) (number at x) (ap (λ (y : A). mine y && number at y) (sym s) ∙ h.0.2) in
      find_there f own test xs at x e (owned x ∙ t.0) (agree at x e ∙ t.1) (λ k y l g. both k y g ∙ h.1 k y l g)

  pub first_nowhere : IsFirstIn (λ k y. mine y && number k y) xs None → find test (filter own (map f xs)) ≡ None
  first_nowhere h = find_nowhere f own test xs (λ k y g. both k y g ∙ h k y g)

-- ---- told of a list that is filtered and mapped
module _ {A B : Type 0} (f : A → B) (own test : B → Bool) (number : A → Bool) (same : (x : A) → (own (f x) && test (f x)) ≡ number x) where
  pub any_filtered : (xs : List A) → list_any test (filter own (map f xs)) ≡ list_any number xs
  any_filtered [] = refl
  any_filtered (x ∷ xs) = cases (any_filtered xs) (own (f x)) refl
    where
      rest : List B
      rest = filter own (map f xs)

      cases : list_any test rest ≡ list_any number xs → (a : Bool) → own (f x) ≡ a → list_any test (cond (own (f x)) (f x ∷ rest) rest) ≡ (number x || list_any number xs)
      cases ih true p = ap (λ b. list_any test (cond b (f x ∷ rest) rest)) p ∙ (λ z. test (f x) || ih z) ∙ ap (λ b. b || list_any number xs) (sym (ap (λ b. b && test (f x)) p) ∙ same x)
      cases ih false p = ap (λ b. list_any test (cond b (f x ∷ rest) rest)) p ∙ ih ∙ ap (λ b. b || list_any number xs) (sym (ap (λ b. b && test (f x)) p) ∙ same x)

module _ {A B : Type 0} (f : A → B) (own second third : B → Bool) (number : A → Bool) (same : (x : A) → (own (f x) && (second (f x) && third (f x))) ≡ number x) where
  pub length_filtered : (xs : List A) → length (filter third (filter second (filter own (map f xs)))) ≡ length (filter number xs)
  length_filtered [] = refl
  length_filtered (x ∷ xs) =
      let rest : List B = filter own (map f xs) in
      let kept : List B = filter third (filter second rest) in
      step (f x) rest (own (f x)) ∙ ap (λ b. length (cond b (f x ∷ kept) kept)) (same x) ∙ either (f x) kept x (filter number xs) (length_filtered xs) (number x)
    where
      one : (y : B) (ys : List B) (b : Bool) → length (filter third (cond b (y ∷ ys) ys)) ≡ length (cond (b && third y) (y ∷ filter third ys) (filter third ys))
      one y ys true = refl
      one y ys false = refl

      step : (y : B) (ys : List B) (a : Bool) → length (filter third (filter second (cond a (y ∷ ys) ys))) ≡ length (cond (a && (second y && third y)) (y ∷ filter third (filter second ys)) (filter third (filter second ys)))
      step y ys true = one y (filter second ys) (second y)
      step y ys false = refl

      either : (y : B) (ys : List B) (z : A) (zs : List A) → length ys ≡ length zs → (b : Bool) → length (cond b (y ∷ ys) ys) ≡ length (cond b (z ∷ zs) zs)
      either y ys z zs e true = ap suc e
      either y ys z zs e false = e

-- ---- found in a list that is mapped
pub find_mapped : {A B : Type 0} (f : A → B) (test : B → Bool) (number : A → Bool) → ((x : A) → test (f x) ≡ number x) → (xs : List A) → find test (map f xs) ≡ option_map f (find number xs)
find_mapped f test number same [] = refl
find_mapped {A} {B} f test number same (x ∷ xs) =
    ap (λ b. cond b (Some (f x)) (find test (map f xs))) (same x) ∙ cases (number x) (find_mapped f test number same xs)
  where
    cases : (b : Bool) → find test (map f xs) ≡ option_map f (find number xs) → cond b (Some (f x)) (find test (map f xs)) ≡ option_map f (cond b (Some x) (find number xs))
    cases true ih = refl
    cases false ih = ih

pub reverse_mapped : {A B : Type 0} (f : A → B) (xs : List A) → reverse (map f xs) ≡ map f (reverse xs)
reverse_mapped f [] = refl
reverse_mapped {A} {B} f (x ∷ xs) =
    reverse-append (f x ∷ []) (map f xs) ∙ ap (λ (ys : List B). ys ++ f x ∷ []) (reverse_mapped f xs) ∙ sym (map-append f (reverse xs) (x ∷ [])) ∙ ap (λ (ys : List A). map f ys) (sym (reverse-append (x ∷ []) xs))

-- ---- the first answer of a list of which only the places matter
later : (k j : ℕ) → suc k + j ≡ k + suc j
later k j = omega arith

none_more : (k : ℕ) → k ≡ k + 0
none_more k = omega arith

module _ {A B : Type 0} where
  -- the first answer, where the first item's is known
  head : (answer : ℕ → Option B) (items : List A) (k : ℕ) (o : Option B) → answer (k + 0) ≡ o → first (answer k ∷ each_from (suc k) (λ line item. answer line) items) ≡ first (o ∷ each_from (suc k) (λ line item. answer line) items)
  head answer items k o e = ap (λ (x : Option B). first (x ∷ each_from (suc k) (λ line item. answer line) items)) (ap answer (none_more k) ∙ e)

  pub first_from : (answer : ℕ → Option B) (items : List A) (k : ℕ) (r : Option B) → IsFirstFor (λ j. answer (k + j)) (length items) r → first (each_from k (λ line item. answer line) items) ≡ r
  unfolding first each_from
  first_from answer [] k None h = refl
  first_from answer [] k (Some value) h = absurd (omega (arith, h.1))
  first_from answer (item ∷ items) k None h =
      head answer items k None (h 0 (omega arith)) ∙ first_from answer items (suc k) None (λ j l. ap answer (later k j) ∙ h (suc j) (omega (arith, l)))
  first_from answer (item ∷ items) k (Some value) h = cases (λ g. first_from answer items (suc k) (Some value) g) h.0 h.1 h.2 h.3
    where
      cases : (IsFirstFor (λ j. answer (suc k + j)) (length items) (Some value) → first (each_from (suc k) (λ line item. answer line) items) ≡ Some value)
          → (at : ℕ) → at < length (item ∷ items) → answer (k + at) ≡ Some value → ((j : ℕ) → j < at → answer (k + j) ≡ None) → first (answer k ∷ each_from (suc k) (λ line item. answer line) items) ≡ Some value
      cases ih zero l e b = head answer items k (Some value) e
      cases ih (suc at) l e b = head answer items k None (b 0 (omega arith)) ∙ ih (at, omega (arith, l), ap answer (later k at) ∙ e, λ j m. ap answer (later k j) ∙ b (suc j) (omega (arith, m)))

  pub each_first : (answer : ℕ → Option B) (items : List A) (r : Option B) → IsFirstFor answer (length items) r → each items (λ line item. answer line) ≡ r
  unfolding each
  each_first answer items r h = first_from answer items 0 r (from_zero r h)
    where
      zero_more : (j : ℕ) → 0 + j ≡ j
      zero_more j = omega arith

      from_zero : (r : Option B) → IsFirstFor answer (length items) r → IsFirstFor (λ j. answer (0 + j)) (length items) r
      from_zero None h = λ j l. ap answer (zero_more j) ∙ h j l
      from_zero (Some value) h = (h.0, h.1, ap answer (zero_more h.0) ∙ h.2, λ j l. ap answer (zero_more j) ∙ h.3 j l)
