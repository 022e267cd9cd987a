-- How running counts go from one state to the next.
use Rattle.std.proofs.Common.{◌≡◌, ◌≢◌, ℕ, ◌+◌, ◌-◌, ◌*◌, ◌^◌, ◌<◌, ◌≤◌, ◌&&◌, Bool, true, false, cond, eqb, List, [], ◌∷◌, ◌++◌, length, get_or, set, replicate, refl, sym, ap, subst, ◌∙◌, arith}
use Rattle.std.specs.List.{count_by}
use Rattle.std.proofs.lemmas.List.{length-set, get_or-set_same, get_or-set_other, get_or-replicate, length-replicate}
use Rattle.std.proofs.lemmas.List.Sums.{sum_by-cons, sum_by_push, sum_by-set, get_or-le-sum_by, count_by-le-length}
use borrow.Author.Tests.{eqb-true, eq-eqb}
use native.Mathlib.Decide.{ℕ_discrete}
use Rattle.deed_words.specs.declared.words.State.{State}
use Rattle.deed_words.specs.declared.words.State.TheVariants.{Fresh, Lent, Returned, Spoiled, Active, Sampled, Rejected, Gone}
use Rattle.item_store.specs.declared.row.ItemRow.{ItemRow}
use Rattle.item_store.specs.Rows.{state_code, is_of, has_state, count_in}
use Rattle.item_store.specs.Cells.{state_cell, IsTally, raised, lowered}

-- what a row adds to a cell
abbrev share : ℕ → ℕ → ℕ
share c at = cond (eqb c at) 1 0

share_same : (c at : ℕ) → c ≡ at → share c at ≡ 1
share_same c at e = ap (λ b. cond b 1 0) (eq-eqb c at e)

by_test : (c at : ℕ) (b : Bool) → eqb c at ≡ b → c ≢ at → ◌≡◌ {A = ℕ} (cond b 1 0) 0
by_test c at true e ne = absurd (ne (eqb-true c at e))
by_test c at false e ne = refl

share_other : (c at : ℕ) → c ≢ at → share c at ≡ 0
share_other c at ne = by_test c at (eqb c at) refl ne

-- a cell after one more and after one fewer
pub raised_at : (cs : List ℕ) (c at : ℕ) → at < length cs → get_or (raised cs c) at 0 ≡ get_or cs at 0 + share c at
raised_at cs c at l = elim (ℕ_discrete at c) [
  | yes e ↦
      let z : get_or (raised cs c) at 0 ≡ get_or cs c 0 + 1 = ap (λ x. get_or (raised cs c) x 0) e ∙ get_or-set_same cs c (get_or cs c 0 + 1) 0 (subst (λ x. x < length cs) e l) in
      let y : get_or cs at 0 ≡ get_or cs c 0 = ap (λ x. get_or cs x 0) e in
      omega (arith, share_same c at (sym e))
  | no ne ↦ let z = get_or-set_other cs c at (get_or cs c 0 + 1) 0 ne in omega (arith, share_other c at (λ e. ne (sym e)))
]

pub lowered_at : (cs : List ℕ) (c at : ℕ) → at < length cs → get_or (lowered cs c) at 0 ≡ get_or cs at 0 - share c at
lowered_at cs c at l = elim (ℕ_discrete at c) [
  | yes e ↦
      let z : get_or (lowered cs c) at 0 ≡ get_or cs c 0 - 1 = ap (λ x. get_or (lowered cs c) x 0) e ∙ get_or-set_same cs c (get_or cs c 0 - 1) 0 (subst (λ x. x < length cs) e l) in
      let y : get_or cs at 0 ≡ get_or cs c 0 = ap (λ x. get_or cs x 0) e in
      omega (arith, share_same c at (sym e))
  | no ne ↦ let z = get_or-set_other cs c at (get_or cs c 0 - 1) 0 ne in omega (arith, share_other c at (λ e. ne (sym e)))
]

module _ (f : ItemRow → ℕ) (rows : List ItemRow) (cs : List ℕ) (t : IsTally f rows cs) where
  -- a row's own cell counts it
  pub own_cell : (i : ℕ) (d : ItemRow) → i < length rows → f (get_or rows i d) < length cs → 0 < get_or cs (f (get_or rows i d)) 0
  own_cell i d l p =
      let c : ℕ = f (get_or rows i d) in
      let s = get_or-le-sum_by (λ row. share (f row) c) rows i d l in
      omega (arith, t.each c p, s, share_same c c refl)

  pub cell_few : (at : ℕ) → at < length cs → get_or cs at 0 ≤ length rows
  cell_few at p = omega (arith, t.each at p, count_by-le-length (λ row. eqb (f row) at) rows)

  pub tally_push : (row : ItemRow) → IsTally f (rows ++ row ∷ []) (raised cs (f row))
  tally_push row = record {
    each = λ at l.
        let p : at < length cs = omega (arith, length-set cs (f row) (get_or cs (f row) 0 + 1)) in
        let s = sum_by_push (λ r. share (f r) at) rows row in
        omega (arith, raised_at cs (f row) at p, t.each at p, s);
  }

  pub tally_set : (i : ℕ) (d row : ItemRow) → i < length rows → IsTally f (set rows i row) (raised (lowered cs (f (get_or rows i d))) (f row))
  tally_set i d row l = record {
    each = λ at q.
        let c : ℕ = f (get_or rows i d) in
        let low = lowered cs c in
        let n : length low ≡ length cs = length-set cs c (get_or cs c 0 - 1) in
        let m = length-set low (f row) (get_or low (f row) 0 + 1) in
        let p : at < length cs = omega arith in
        let s = sum_by-set (λ r. share (f r) at) rows i row d l in
        let b = get_or-le-sum_by (λ r. share (f r) at) rows i d l in
        omega (arith, raised_at low (f row) at (omega arith), lowered_at cs c at p, t.each at p, s, b);
  }

  -- after one fewer there is room for one more
  pub low_fits : (low : List ℕ) (c at : ℕ) → length rows ≤ 1000000 → low ≡ lowered cs c → at < length low → get_or low at 0 + 1 < 2 ^ 32
  low_fits low c at few e l =
      let n : length low ≡ length cs = ap (λ (xs : List ℕ). length xs) e ∙ length-set cs c (get_or cs c 0 - 1) in
      let p : at < length cs = omega (arith, l, n) in
      let v : get_or low at 0 ≡ get_or cs at 0 - share c at = ap (λ (xs : List ℕ). get_or xs at 0) e ∙ lowered_at cs c at p in
      omega (arith, v, cell_few at p, few)

-- without the last row
pub tally_pop : (f : ItemRow → ℕ) (rows : List ItemRow) (row : ItemRow) (cs : List ℕ) → IsTally f (rows ++ row ∷ []) cs → IsTally f rows (lowered cs (f row))
tally_pop f rows row cs t = record {
  each = λ at q.
      let p : at < length cs = omega (arith, length-set cs (f row) (get_or cs (f row) 0 - 1)) in
      let s = sum_by_push (λ r. share (f r) at) rows row in
      omega (arith, lowered_at cs (f row) at p, t.each at p, s);
}

pub tally_none : (f : ItemRow → ℕ) (cs : List ℕ) (n : ℕ) → cs ≡ replicate n 0 → IsTally f [] cs
tally_none f cs n e = record {
  each = λ at p.
      let m : length cs ≡ n = ap (λ (xs : List ℕ). length xs) e ∙ length-replicate n _ in
      ap (λ (xs : List ℕ). get_or xs at 0) e ∙ get_or-replicate n at 0 0 (subst (λ y. at < y) m p);
}

-- ---- a cell of batch and state
code_small : (s : State) → state_code s < 8
code_small Fresh = omega arith
code_small Lent = omega arith
code_small Returned = omega arith
code_small Spoiled = omega arith
code_small Active = omega arith
code_small Sampled = omega arith
code_small Rejected = omega arith
code_small Gone = omega arith

no_by : (a b : ℕ) (t : Bool) → eqb a b ≡ t → a ≢ b → t ≡ false
no_by a b true e ne = absurd (ne (eqb-true a b e))
no_by a b false e ne = refl

pub eqb_no : (a b : ℕ) → a ≢ b → eqb a b ≡ false
eqb_no a b ne = no_by a b (eqb a b) refl ne

pub both_no : (a : Bool) → (a && false) ≡ false
both_no true = refl
both_no false = refl

pub cell_is : (x b : ℕ) (s t : State) → eqb (x * 8 + state_code s) (b * 8 + state_code t) ≡ (eqb x b && eqb (state_code s) (state_code t))
cell_is x b s t =
    let p = code_small s in
    let q = code_small t in
    elim (ℕ_discrete x b) [
      | yes e ↦ elim (ℕ_discrete (state_code s) (state_code t)) [
        | yes f ↦ eq-eqb _ _ (omega arith) ∙ sym (ap (λ u. u && eqb (state_code s) (state_code t)) (eq-eqb x b e) ∙ eq-eqb _ _ f)
        | no f ↦ eqb_no _ _ (λ g. f (omega arith)) ∙ sym (ap (λ u. eqb x b && u) (eqb_no _ _ f) ∙ both_no _)
      ]
      | no e ↦ eqb_no _ _ (λ g. e (omega arith)) ∙ sym (ap (λ u. u && eqb (state_code s) (state_code t)) (eqb_no x b e))
    ]

-- the cell of a batch and a state counts its rows
pub count_at : (rows : List ItemRow) (cs : List ℕ) (b : ℕ) (s : State) → IsTally state_cell rows cs → b * 8 + state_code s < length cs → get_or cs (b * 8 + state_code s) 0 ≡ count_in b s rows
count_at rows cs b s t p = t.each (b * 8 + state_code s) p ∙ (λ z. count_by (λ (row : ItemRow). cell_is row.batch b row.state s z) rows)

-- ---- a batch's rows are those of its states
abbrev share_if : Bool → ℕ
share_if t = cond t 1 0

abbrev each_state : Bool → State → ℕ
each_state of s =
    share_if (of && eqb (state_code s) (state_code Fresh)) + share_if (of && eqb (state_code s) (state_code Lent)) + share_if (of && eqb (state_code s) (state_code Returned)) + share_if (of && eqb (state_code s) (state_code Spoiled)) + share_if (of && eqb (state_code s) (state_code Active)) + share_if (of && eqb (state_code s) (state_code Sampled)) + share_if (of && eqb (state_code s) (state_code Rejected)) + share_if (of && eqb (state_code s) (state_code Gone))

one_state : (of : Bool) (s : State) → share_if of ≡ each_state of s
one_state true Fresh = refl
one_state true Lent = refl
one_state true Returned = refl
one_state true Spoiled = refl
one_state true Active = refl
one_state true Sampled = refl
one_state true Rejected = refl
one_state true Gone = refl
one_state false Fresh = refl
one_state false Lent = refl
one_state false Returned = refl
one_state false Spoiled = refl
one_state false Active = refl
one_state false Sampled = refl
one_state false Rejected = refl
one_state false Gone = refl

pub counted_in_states : (b : ℕ) (rows : List ItemRow) → count_by (is_of b) rows ≡ count_in b Fresh rows + count_in b Lent rows + count_in b Returned rows + count_in b Spoiled rows + count_in b Active rows + count_in b Sampled rows + count_in b Rejected rows + count_in b Gone rows
counted_in_states b [] = refl
counted_in_states b (row ∷ rows) =
    omega (arith, one_state (is_of b row) row.state, counted_in_states b rows, sum_by-cons (λ r. cond (is_of b r) 1 0) row rows, sum_by-cons (λ r. cond (is_of b r && has_state Fresh r) 1 0) row rows, sum_by-cons (λ r. cond (is_of b r && has_state Lent r) 1 0) row rows, sum_by-cons (λ r. cond (is_of b r && has_state Returned r) 1 0) row rows, sum_by-cons (λ r. cond (is_of b r && has_state Spoiled r) 1 0) row rows, sum_by-cons (λ r. cond (is_of b r && has_state Active r) 1 0) row rows, sum_by-cons (λ r. cond (is_of b r && has_state Sampled r) 1 0) row rows, sum_by-cons (λ r. cond (is_of b r && has_state Rejected r) 1 0) row rows, sum_by-cons (λ r. cond (is_of b r && has_state Gone r) 1 0) row rows)
