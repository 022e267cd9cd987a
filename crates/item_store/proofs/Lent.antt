-- The counts of a batch and a line.
use Rattle.std.proofs.Common.{◌≡◌, ◌≢◌, ℕ, suc, ◌+◌, ◌*◌, ◌<◌, ◌≤◌, ◌&&◌, Bool, true, false, cond, eqb, List, [], ◌∷◌, length, get_or, Option, None, Some, refl, sym, ap, subst, ◌∙◌, arith}
use Rattle.std.specs.Prelude.{nat_lt, not}
use Rattle.std.specs.List.{All, count_by, list_any}
use Rattle.std.proofs.lemmas.List.Sums.{sum_by-cons, get_or-le-sum_by}
use Rattle.std.proofs.lemmas.List.Folds.{list_any_none, list_any_at}
use Rattle.std.proofs.lemmas.Bool.Decides.{nat_tests}
use borrow.Author.Tests.{eq-eqb}
use native.Mathlib.Decide.{ℕ_discrete}
use Rattle.deed_words.specs.declared.words.State.{State}
use Rattle.deed_words.specs.declared.words.State.TheVariants.{Fresh, Lent, Returned, Spoiled, Active, Sampled, Rejected, Gone}
use Rattle.item_store.specs.declared.row.ItemRow.{ItemRow}
use Rattle.item_store.specs.Rows.{is_line, is_lent_to, line_class, count_to}
use Rattle.item_store.specs.Cells.{line_cell, cell_to, pair_cell, IsTally}
use Rattle.item_store.proofs.Tallies.{eqb_no, both_no}

class_small : (s : State) → line_class s < 4
class_small Fresh = omega arith
class_small Lent = omega arith
class_small Returned = omega arith
class_small Spoiled = omega arith
class_small Active = omega arith
class_small Sampled = omega arith
class_small Rejected = omega arith
class_small Gone = omega arith

-- a line's cells are those below 64
pub pair_near : (b l k : ℕ) → nat_lt l 64 ≡ true → pair_cell b l k ≡ (b * 64 + l) * 4 + k
pair_near b l k e = ap (λ t. cond t ((b * 64 + l) * 4 + k) 16777216) e

pair_far : (b l k : ℕ) → nat_lt l 64 ≡ false → pair_cell b l k ≡ 16777216
pair_far b l k e = ap (λ t. cond t ((b * 64 + l) * 4 + k) 16777216) e

-- the test of a cell is the test of batch, line and what the row is for it
near_is : (x b own l j k : ℕ) → own < 64 → l < 64 → j < 4 → k < 4 → eqb ((x * 64 + own) * 4 + j) ((b * 64 + l) * 4 + k) ≡ ((eqb x b && eqb own l) && eqb j k)
near_is x b own l j k p q r s =
    elim (ℕ_discrete x b) [
      | yes e ↦ elim (ℕ_discrete own l) [
        | yes f ↦ elim (ℕ_discrete j k) [
          | yes g ↦ eq-eqb _ _ (omega arith) ∙ sym ((λ z. (eq-eqb x b e z && eq-eqb own l f z) && eq-eqb j k g z))
          | no g ↦ eqb_no _ _ (λ h. g (omega arith)) ∙ sym (ap (λ u. (eqb x b && eqb own l) && u) (eqb_no _ _ g) ∙ both_no _)
        ]
        | no f ↦ eqb_no _ _ (λ h. f (omega arith)) ∙ sym (ap (λ u. (eqb x b && u) && eqb j k) (eqb_no _ _ f) ∙ ap (λ u. u && eqb j k) (both_no _))
      ]
      | no e ↦ eqb_no _ _ (λ h. e (omega arith)) ∙ sym (ap (λ u. (u && eqb own l) && eqb j k) (eqb_no _ _ e))
    ]

some_is : (x b own l j k : ℕ) (t : Bool) → nat_lt own 64 ≡ t → b < 65536 → l < 64 → j < 4 → k < 4 → eqb (pair_cell x own j) ((b * 64 + l) * 4 + k) ≡ ((eqb x b && eqb own l) && eqb j k)
some_is x b own l j k true t o q r s = ap (λ c. eqb c ((b * 64 + l) * 4 + k)) (pair_near x own j t) ∙ near_is x b own l j k (grind (arith, nat_tests, t)) q r s
some_is x b own l j k false t o q r s =
    let far : 64 ≤ own = grind (arith, nat_tests, t) in
    let e : own ≢ l = λ h. absurd (omega (arith, h, far, q)) in
    let apart : 16777216 ≢ (b * 64 + l) * 4 + k = λ h. absurd (omega (arith, h, o, q, s)) in
    ap (λ c. eqb c ((b * 64 + l) * 4 + k)) (pair_far x own j t) ∙ eqb_no _ _ apart
    ∙ sym (ap (λ u. (eqb x b && u) && eqb j k) (eqb_no _ _ e) ∙ ap (λ u. u && eqb j k) (both_no _))

cell_is : (x b l j k : ℕ) (line : Option ℕ) → b < 65536 → l < 64 → j < 4 → k < 4 → eqb (cell_to x line j) ((b * 64 + l) * 4 + k) ≡ ((eqb x b && is_line line l) && eqb j k)
cell_is x b l j k None o q r s =
    let apart : 16777216 ≢ (b * 64 + l) * 4 + k = λ h. absurd (omega (arith, h, o, q, s)) in
    eqb_no _ _ apart ∙ sym (ap (λ u. u && eqb j k) (both_no _))
cell_is x b l j k (Some own) o q r s = some_is x b own l j k (nat_lt own 64) refl o q r s

-- the cell counts the line's rows
pub count_at : (rows : List ItemRow) (cells : List ℕ) (b l k : ℕ) → IsTally line_cell rows cells → b < 65536 → l < 64 → k < 4 → pair_cell b l k < length cells → get_or cells (pair_cell b l k) 0 ≡ count_to b l k rows
count_at rows cells b l k t o q s p =
    let e : pair_cell b l k ≡ (b * 64 + l) * 4 + k = pair_near b l k (grind (arith, nat_tests, q)) in
    ap (λ at. get_or cells at 0) e ∙ t.each ((b * 64 + l) * 4 + k) (subst (λ at. at < length cells) e p)
    ∙ (λ z. count_by (λ (row : ItemRow). cell_is row.batch b l (line_class row.state) k row.line o q (class_small row.state) s z) rows)

-- ---- a line's rows are those of the four kinds
abbrev share_if : Bool → ℕ
share_if t = cond t 1 0

one_class : (to : Bool) (s : State) → share_if to ≡ share_if (to && eqb (line_class s) 0) + share_if (to && eqb (line_class s) 1) + share_if (to && eqb (line_class s) 2) + share_if (to && eqb (line_class s) 3)
one_class true Fresh = refl
one_class true Lent = refl
one_class true Returned = refl
one_class true Spoiled = refl
one_class true Active = refl
one_class true Sampled = refl
one_class true Rejected = refl
one_class true Gone = refl
one_class false s = refl

counted_in_classes : (b l : ℕ) (rows : List ItemRow) → count_by (is_lent_to b l) rows ≡ count_to b l 0 rows + count_to b l 1 rows + count_to b l 2 rows + count_to b l 3 rows
counted_in_classes b l [] = refl
counted_in_classes b l (row ∷ rows) =
    omega (
      arith,
      one_class (is_lent_to b l row) row.state,
      counted_in_classes b l rows,
      sum_by-cons (λ r. cond (is_lent_to b l r) 1 0) row rows,
      sum_by-cons (λ r. cond (is_lent_to b l r && eqb (line_class r.state) 0) 1 0) row rows,
      sum_by-cons (λ r. cond (is_lent_to b l r && eqb (line_class r.state) 1) 1 0) row rows,
      sum_by-cons (λ r. cond (is_lent_to b l r && eqb (line_class r.state) 2) 1 0) row rows,
      sum_by-cons (λ r. cond (is_lent_to b l r && eqb (line_class r.state) 3) 1 0) row rows,
    )

-- ---- whether one was counted
true_is_false : true ≡ false → ⊥
true_is_false e = cc

no_share : (t : Bool) → share_if t ≤ 0 → t ≡ false
no_share true l = absurd (omega (arith, l))
no_share false l = refl

pub none_pass : (test : ItemRow → Bool) (rows : List ItemRow) → count_by test rows ≡ 0 → All (λ row. test row ≡ false) rows
none_pass test rows e k d l =
    let s = get_or-le-sum_by (λ row. share_if (test row)) rows k d l in
    no_share (test (get_or rows k d)) (omega (arith, s, e))

none_counted : (test : ItemRow → Bool) (rows : List ItemRow) → All (λ row. test row ≡ false) rows → count_by test rows ≡ 0
none_counted test [] a = refl
none_counted test (row ∷ rows) a =
    let here : share_if (test row) ≡ 0 = ap share_if (a 0 row (omega arith)) in
    omega (arith, here, sum_by-cons (λ r. share_if (test r)) row rows, none_counted test rows (λ k d l. a (suc k) d (omega (arith, l))))

any_by : (test : ItemRow → Bool) (rows : List ItemRow) (t : Bool) → list_any test rows ≡ t → (t ≡ false → count_by test rows ≡ 0) × (t ≡ true → 0 < count_by test rows)
any_by test rows true e = (
  λ f. absurd (cc),
  λ f. elim (ℕ_discrete (count_by test rows) 0) [
    | yes z ↦ absurd (true_is_false (sym e ∙ list_any_none test rows (none_pass test rows z)))
    | no z ↦ omega (arith, z)
  ],
)
any_by test rows false e = (
  λ f. none_counted test rows (λ k d l. elim (test (get_or rows k d)) as (λ t. test (get_or rows k d) ≡ t → t ≡ false) [
    | true ↦ λ p. absurd (true_is_false (sym (list_any_at test rows k d l p) ∙ e))
    | false ↦ λ p. refl
  ] refl),
  λ f. absurd (cc),
)

pub any_is : (test : ItemRow → Bool) (rows : List ItemRow) (n : ℕ) → n ≡ count_by test rows → (list_any test rows ≡ false → n ≡ 0) × (list_any test rows ≡ true → 0 < n)
any_is test rows n e =
    let p = any_by test rows (list_any test rows) refl in
    (λ f. e ∙ p.0 f, λ f. omega (arith, p.1 f, e))

-- whether the line was lent a row, by the sum of the four counts
pub lent_is : (b l n : ℕ) (rows : List ItemRow) → n ≡ count_to b l 0 rows + count_to b l 1 rows + count_to b l 2 rows + count_to b l 3 rows → not (eqb n 0) ≡ list_any (is_lent_to b l) rows
lent_is b l n rows e =
    let p = any_is (is_lent_to b l) rows n (e ∙ sym (counted_in_classes b l rows)) in
    elim (list_any (is_lent_to b l) rows) as (λ t. list_any (is_lent_to b l) rows ≡ t → not (eqb n 0) ≡ t) [
      | true ↦ λ f. ap not (eqb_no n 0 (λ z. absurd (omega (arith, z, p.1 f))))
      | false ↦ λ f. ap not (eq-eqb n 0 (p.0 f))
    ] refl
