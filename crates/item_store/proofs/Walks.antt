-- The rows of a batch, walked in their order.
use Rattle.std.proofs.Common.{◌≡◌, ℕ, zero, suc, ◌+◌, ◌<◌, ◌≤◌, Bool, true, false, cond, List, [], ◌∷◌, ◌++◌, length, drop, get_or, Some, None, refl, sym, ap, ◌∙◌, arith}
use Rattle.std.specs.List.{position}
use Rattle.std.proofs.lemmas.List.Sums.{position_or_len_is}
use Rattle.std.proofs.lemmas.List.{get_or-map, drop_more}
use borrow.Author.Tests.{eqb-true}
use native.Mathlib.Decide.{dec_lt, ℕ_discrete}
use Rattle.deed_words.specs.declared.words.State.{State}
use Rattle.item_store.specs.declared.row.ItemRow.{ItemRow}
use Rattle.item_store.specs.Rows.{is_in, batch_in, fresh_row, places_of}
use Rattle.item_store.specs.Store.{IsReached}
use Rattle.item_store.proofs.Places.{left_true, false_by, places_skip}
use Rattle.item_store.proofs.Changes.{nowhere, place_is}

-- a row that is passed over is in no state of the batch
pub passed : (rows : List ItemRow) (batch : ℕ) (state : State) (from next : ℕ) → IsReached rows from batch next → (i : ℕ) (d : ItemRow) → from ≤ i → i < next → i < length rows → is_in batch state (get_or rows i d) ≡ false
passed rows batch state from next x i d l m q = false_by _ (λ t. x.none i l m (get_or-map batch_in rows i d 0 q ∙ eqb-true _ _ (left_true _ _ t)))

-- one row more was looked at
pub passed_more : (rows : List ItemRow) (batch : ℕ) (state : State) (from at next : ℕ) (row : ItemRow) → ((i : ℕ) (d : ItemRow) → from ≤ i → i < at → i < length rows → is_in batch state (get_or rows i d) ≡ false)
    → ((d : ItemRow) → get_or rows at d ≡ row) → is_in batch state row ≡ false → IsReached rows (at + 1) batch next → (i : ℕ) (d : ItemRow) → from ≤ i → i < next → i < length rows → is_in batch state (get_or rows i d) ≡ false
passed_more rows batch state from at next row before read n x i d l m q = elim (dec_lt i at) [
  | yes b ↦ before i d l b q
  | no b ↦ elim (ℕ_discrete i at) [
    | yes e ↦ ap (λ k. is_in batch state (get_or rows k d)) e ∙ ap (is_in batch state) (read d) ∙ n
    | no e ↦ passed rows batch state (at + 1) next x i d (omega (arith, b, e)) m q
  ]
]

-- the places that pass go on where the next row that may pass stands
gap : (test : ItemRow → Bool) (rows : List ItemRow) (base from next : ℕ) → from ≤ next → ((i : ℕ) (d : ItemRow) → from ≤ i → i < next → i < length rows → test (get_or rows i d) ≡ false)
    → places_of test (base + from) (drop from rows) ≡ places_of test (base + next) (drop next rows)
gap test rows base zero next l none =
    let e : base + 0 ≡ base = omega arith in
    ap (λ n. places_of test n rows) e ∙ places_skip test rows base next (λ i d p q. none i d (omega arith) p q)
gap test [] base (suc from) zero l none = absurd (omega (arith, l))
gap test [] base (suc from) (suc next) l none = refl
gap test (row ∷ rows) base (suc from) zero l none = absurd (omega (arith, l))
gap test (row ∷ rows) base (suc from) (suc next) l none =
    let e : base + suc from ≡ base + 1 + from = omega arith in
    let f : base + 1 + next ≡ base + suc next = omega arith in
    ap (λ n. places_of test n (drop from rows)) e
    ∙ gap test rows (base + 1) from next (omega (arith, l)) (λ i d p q m. none (suc i) d (omega (arith, p)) (omega (arith, q)) (omega (arith, m)))
    ∙ ap (λ n. places_of test n (drop next rows)) f

pub walked : (rows : List ItemRow) (batch : ℕ) (state : State) (from next : ℕ) → IsReached rows from batch next → places_of (is_in batch state) from (drop from rows) ≡ places_of (is_in batch state) next (drop next rows)
walked rows batch state from next x =
    let e : from ≡ 0 + from = omega arith in
    let f : 0 + next ≡ next = omega arith in
    ap (λ n. places_of (is_in batch state) n (drop from rows)) e
    ∙ gap (is_in batch state) rows 0 from next x.later (passed rows batch state from next x)
    ∙ ap (λ n. places_of (is_in batch state) n (drop next rows)) f

-- one row more is told of
pub told_more : (rows : List ItemRow) (batch : ℕ) (state : State) (at next : ℕ) (d : ItemRow) → at < length rows → IsReached rows (at + 1) batch next
    → places_of (is_in batch state) at (drop at rows) ≡ cond (is_in batch state (get_or rows at d)) (at ∷ places_of (is_in batch state) next (drop next rows)) (places_of (is_in batch state) next (drop next rows))
told_more rows batch state at next d l x =
    ap (places_of (is_in batch state) at) (drop_more rows at d l)
    ∙ ap (λ (ps : List ℕ). cond (is_in batch state (get_or rows at d)) (at ∷ ps) ps) (walked rows batch state (at + 1) next x)

push_more : (ids ps : List ℕ) (at : ℕ) → (ids ++ at ∷ []) ++ ps ≡ ids ++ at ∷ ps
push_more [] ps at = refl
push_more (id ∷ ids) ps at = ap (λ (xs : List ℕ). id ∷ xs) (push_more ids ps at)

pub told_yes : (b : Bool) (old ids at_on next_on all : List ℕ) (at : ℕ) → b ≡ true → ids ≡ old ++ at ∷ [] → at_on ≡ cond b (at ∷ next_on) next_on → old ++ at_on ≡ all → ids ++ next_on ≡ all
told_yes true old ids at_on next_on all at e i t a = ap (λ (xs : List ℕ). xs ++ next_on) i ∙ push_more old next_on at ∙ ap (λ (xs : List ℕ). old ++ xs) (sym t) ∙ a
told_yes false old ids at_on next_on all at e i t a = absurd (cc)

pub told_no : (b : Bool) (old ids at_on next_on all : List ℕ) (at : ℕ) → b ≡ false → ids ≡ old → at_on ≡ cond b (at ∷ next_on) next_on → old ++ at_on ≡ all → ids ++ next_on ≡ all
told_no true old ids at_on next_on all at e i t a = absurd (cc)
told_no false old ids at_on next_on all at e i t a = ap (λ (xs : List ℕ). xs ++ next_on) i ∙ ap (λ (xs : List ℕ). old ++ xs) (sym t) ∙ a

-- the first row of the batch in the state
module _ (rows : List ItemRow) (batch : ℕ) (state : State) (first at : ℕ) (x : IsReached rows 0 batch first) (others : (i : ℕ) (d : ItemRow) → first ≤ i → i < at → i < length rows → is_in batch state (get_or rows i d) ≡ false) where
  none_before : (i : ℕ) (d : ItemRow) → i < at → i < length rows → is_in batch state (get_or rows i d) ≡ false
  none_before i d m q = elim (dec_lt i first) [
    | yes b ↦ passed rows batch state 0 first x i d (omega arith) b q
    | no b ↦ others i d (omega (arith, b)) m q
  ]

  pub first_there : at < length rows → ((d : ItemRow) → is_in batch state (get_or rows at d) ≡ true) → position (is_in batch state) rows ≡ Some at
  first_there l yes_ =
      let d : ItemRow = fresh_row [] [] 0 in
      place_is (is_in batch state) rows at l (position_or_len_is (is_in batch state) rows at d (omega (arith, l)) (λ k m. none_before k d m (omega (arith, m, l))) (λ m. yes_ d))

  pub first_nowhere : length rows ≤ at → position (is_in batch state) rows ≡ None
  first_nowhere n = nowhere (is_in batch state) rows (λ k d l. none_before k d (omega (arith, l, n)) l)
