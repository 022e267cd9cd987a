-- The rows and the units of a batch, walked.
use Rattle.std.proofs.Common.{◌≡◌, ℕ, zero, suc, ◌+◌, ◌<◌, ◌≤◌, ◌&&◌, Bool, true, false, eqb, cond, List, [], ◌∷◌, length, map, get_or, Option, Some, None, refl, sym, ap, ◌∙◌, arith}
use Rattle.std.specs.List.{slice_get}
use Rattle.std.proofs.lemmas.List.{get_or-map}
use Rattle.std.proofs.lemmas.Option.{slice_get_within}
use Rattle.std.proofs.lemmas.Bool.{eqb-true, eqb-false, eq-eqb, and_from, and_right}
use native.Mathlib.Decide.{dec_lt, ℕ_discrete}
use Rattle.item_store.specs.declared.row.ItemRow.{ItemRow}
use Rattle.item_store.specs.Rows.{batches, is_of}
use Rattle.item_store.specs.Rows as rows
use Rattle.pack_tree.specs.declared.node.UnitRow.{UnitRow}
use Rattle.pack_tree.specs.Chains.{newest_below}
use Rattle.pack_tree.specs.Units.{batch_in}
use Rattle.batch_book.specs.Said.{IsReached}
use Rattle.batch_book.specs.Closing.{IsFirstIn}
use Rattle.batch_book.proofs.Lists.{false_by, get_or_got}

left_true : (a b : Bool) → (a && b) ≡ true → a ≡ true
left_true true b e = refl
left_true false b e = e

-- ---- rows, from the first on
-- rows that are passed over aren't of the batch
pub passed : (items : List ItemRow) (batch from next : ℕ) (test : ℕ → ItemRow → Bool) → IsReached (batches items) from batch next → (k : ℕ) (row : ItemRow) → from ≤ k → k < next → slice_get items k ≡ Some row → (is_of batch row && test k row) ≡ false
passed items batch from next test x k row l m e =
    let n : k < length items = slice_get_within items k row e in
    false_by _ (λ t. x.none k l m (get_or-map rows.batch_in items k row 0 n ∙ ap rows.batch_in (get_or_got items k row row e) ∙ eqb-true _ _ (left_true _ _ t)))

-- a row of the batch passes where it passes for itself
pub own_passes : (items : List ItemRow) (batch at : ℕ) (row : ItemRow) (b : Bool) → get_or (batches items) at 0 ≡ batch → slice_get items at ≡ Some row → b ≡ true → (is_of batch row && b) ≡ true
own_passes items batch at row b own e t =
    let n : at < length items = slice_get_within items at row e in
    let own_row : row.batch ≡ batch = sym (get_or-map rows.batch_in items at row 0 n ∙ ap rows.batch_in (get_or_got items at row row e)) ∙ own in
    and_from _ _ (eq-eqb row.batch batch own_row) t

-- one row more was looked at
pub passed_more : (items : List ItemRow) (batch at next : ℕ) (here : ItemRow) (test : ℕ → ItemRow → Bool) → ((k : ℕ) (row : ItemRow) → k < at → slice_get items k ≡ Some row → (is_of batch row && test k row) ≡ false)
    → slice_get items at ≡ Some here → test at here ≡ false → IsReached (batches items) (at + 1) batch next → (k : ℕ) (row : ItemRow) → k < next → slice_get items k ≡ Some row → (is_of batch row && test k row) ≡ false
passed_more items batch at next here test before e n x k row l f = elim (dec_lt k at) [
  | yes b ↦ before k row b f
  | no b ↦ elim (ℕ_discrete k at) [
    | yes z ↦
        let same_row : here ≡ row = row_at z in
        false_by _ (λ t. absurd (both (test k row) (right_true _ _ t) (ap (λ j. test j row) z ∙ ap (test at) (sym same_row) ∙ n)))
    | no z ↦ passed items batch (at + 1) next test x k row (omega (arith, b, z)) l f
  ]
]
  where
    right_true : (a b : Bool) → (a && b) ≡ true → b ≡ true
    right_true true b e = e
    right_true false b e = absurd (cc)

    both : (b : Bool) → b ≡ true → b ≡ false → ⊥
    both b t f = cc

    row_at : k ≡ at → here ≡ row
    row_at z = let g : Some here ≡ Some row = sym e ∙ ap (λ j. slice_get items j) (sym z) ∙ f in cc

-- ---- units, from the newest on
-- among those from a place on, the first that passes
abbrev pub IsFirstFrom : ℕ → (ℕ → UnitRow → Bool) → List UnitRow → Option ℕ → Type 0
IsFirstFrom m test units None = (k : ℕ) (unit : UnitRow) → m ≤ k → slice_get units k ≡ Some unit → test k unit ≡ false
IsFirstFrom m test units (Some at) =
    (m ≤ at) × ((unit : UnitRow) × (slice_get units at ≡ Some unit) × (test at unit ≡ true)) × ((k : ℕ) (unit : UnitRow) → m ≤ k → k < at → slice_get units k ≡ Some unit → test k unit ≡ false)

-- what is left of a walk, and the first unit so far that passes
pub record IsWalked (batch : ℕ) (test : ℕ → UnitRow → Bool) (units : List UnitRow) (rest : List ℕ) (found : Option ℕ) : Type 0 where
  pub below : ℕ
  pub within : below ≤ length units
  pub rest_is : rest ≡ newest_below batch (map batch_in units) below
  pub first : IsFirstFrom below test units found

nil_cons : {A : Type 0} (x : A) (xs : List A) → [] ≡ x ∷ xs → ⊥
nil_cons x xs e = cc

-- the next unit of the walk
pub newest_step : (batch : ℕ) (bs : List ℕ) (m n : ℕ) (ns : List ℕ) → newest_below batch bs m ≡ n ∷ ns
    → (n < m) × (get_or bs n 0 ≡ batch) × (ns ≡ newest_below batch bs n) × ((k : ℕ) → n < k → k < m → get_or bs k 0 ≡ batch → ⊥)
newest_step batch bs zero n ns e = absurd (nil_cons n ns e)
newest_step batch bs (suc m) n ns e = cases (newest_step batch bs m n ns) (eqb (get_or bs m 0) batch) refl e
  where
    other : eqb (get_or bs m 0) batch ≡ false → get_or bs m 0 ≡ batch → ⊥
    other f g = absurd (no_test (get_or bs m 0) batch f g)
      where
        no_test : (a b : ℕ) → eqb a b ≡ false → a ≡ b → ⊥
        no_test a b f g = eqb-false a b f g

    cases : (newest_below batch bs m ≡ n ∷ ns → (n < m) × (get_or bs n 0 ≡ batch) × (ns ≡ newest_below batch bs n) × ((k : ℕ) → n < k → k < m → get_or bs k 0 ≡ batch → ⊥))
        → (t : Bool) → eqb (get_or bs m 0) batch ≡ t → cond t (m ∷ newest_below batch bs m) (newest_below batch bs m) ≡ n ∷ ns
        → (n < suc m) × (get_or bs n 0 ≡ batch) × (ns ≡ newest_below batch bs n) × ((k : ℕ) → n < k → k < suc m → get_or bs k 0 ≡ batch → ⊥)
    cases ih true f g =
        let at : m ≡ n = cc in
        let rest : newest_below batch bs m ≡ ns = cc in
        (omega (arith, at), ap (λ k. get_or bs k 0) (sym at) ∙ eqb-true _ _ f, sym rest ∙ ap (newest_below batch bs) at, λ k p q b. absurd (omega (arith, p, q, at)))
    cases ih false f g =
        let h = ih g in (
          omega (arith, h.0),
          h.1,
          h.2,
          λ k p q b. elim (ℕ_discrete k m) [
            | yes z ↦ other f (ap (λ j. get_or bs j 0) (sym z) ∙ b)
            | no z ↦ h.3 k p (omega (arith, q, z)) b
          ],
        )

-- nothing is left
pub newest_end : (batch : ℕ) (bs : List ℕ) (m : ℕ) → newest_below batch bs m ≡ [] → (k : ℕ) → k < m → get_or bs k 0 ≡ batch → ⊥
newest_end batch bs zero e k l b = absurd (omega (arith, l))
newest_end batch bs (suc m) e k l b = cases (newest_end batch bs m) (eqb (get_or bs m 0) batch) refl e
  where
    cons_nil : {A : Type 0} (x : A) (xs : List A) → x ∷ xs ≡ [] → ⊥
    cons_nil x xs e = cc

    cases : (newest_below batch bs m ≡ [] → (j : ℕ) → j < m → get_or bs j 0 ≡ batch → ⊥) → (t : Bool) → eqb (get_or bs m 0) batch ≡ t → cond t (m ∷ newest_below batch bs m) (newest_below batch bs m) ≡ [] → ⊥
    cases ih true f g = cons_nil m (newest_below batch bs m) g
    cases ih false f g = elim (ℕ_discrete k m) [
      | yes z ↦ eqb-false _ _ f (ap (λ j. get_or bs j 0) (sym z) ∙ b)
      | no z ↦ ih g k (omega (arith, l, z)) b
    ]

-- ---- a walk over the units
-- where it begins
pub walk_begins : (batch : ℕ) (test : ℕ → UnitRow → Bool) (units : List UnitRow) (rest : List ℕ) → rest ≡ newest_below batch (map batch_in units) (length units) → IsWalked batch test units rest None
walk_begins batch test units rest e = record {
  below = length units;
  within = omega arith;
  rest_is = e;
  first = λ k unit l f. absurd (omega (arith, l, slice_get_within units k unit f));
}

unit_batch : (units : List UnitRow) (k : ℕ) (unit : UnitRow) → slice_get units k ≡ Some unit → get_or (map batch_in units) k 0 ≡ batch_in unit
unit_batch units k unit e = get_or-map batch_in units k unit 0 (slice_get_within units k unit e) ∙ ap batch_in (get_or_got units k unit unit e)

-- the next unit is there
pub walk_there : (batch : ℕ) (test : ℕ → UnitRow → Bool) (units : List UnitRow) (n : ℕ) (ns : List ℕ) (found : Option ℕ) → IsWalked batch test units (n ∷ ns) found → n < length units
walk_there batch test units n ns found w = omega (arith, w.within, (newest_step batch (map batch_in units) w.below n ns (sym w.rest_is)).0)

module _ (batch : ℕ) (own : ℕ → UnitRow → Bool) (units : List UnitRow) where
  abbrev test : ℕ → UnitRow → Bool
  test k unit = eqb (batch_in unit) batch && own k unit

  other : (k : ℕ) (unit : UnitRow) → slice_get units k ≡ Some unit → (get_or (map batch_in units) k 0 ≡ batch → ⊥) → test k unit ≡ false
  other k unit e no_ = false_by _ (λ t. no_ (unit_batch units k unit e ∙ eqb-true _ _ (left_true _ _ t)))

  -- it passes
  pub walk_found : (n : ℕ) (ns : List ℕ) (found : Option ℕ) (unit : UnitRow) → IsWalked batch test units (n ∷ ns) found → slice_get units n ≡ Some unit → own n unit ≡ true → IsWalked batch test units ns (Some n)
  walk_found n ns found unit w e t =
      let s = newest_step batch (map batch_in units) w.below n ns (sym w.rest_is) in
      record {
        below = n;
        within = omega (arith, w.within, s.0);
        rest_is = s.2;
        first = (omega arith, (unit, e, and_from _ _ (eq-eqb (batch_in unit) batch (sym (unit_batch units n unit e) ∙ s.1)) t), λ k unit l m f. absurd (omega (arith, l, m)));
      }

  -- it doesn't
  pub walk_missed : (n : ℕ) (ns : List ℕ) (found : Option ℕ) (unit : UnitRow) → IsWalked batch test units (n ∷ ns) found → slice_get units n ≡ Some unit → own n unit ≡ false → IsWalked batch test units ns found
  walk_missed n ns found unit w e t =
      let s = newest_step batch (map batch_in units) w.below n ns (sym w.rest_is) in
      record { below = n; within = omega (arith, w.within, s.0); rest_is = s.2; first = further found w.first }
    where
      here : (k : ℕ) (u : UnitRow) → k ≡ n → slice_get units k ≡ Some u → test k u ≡ false
      here k u z f =
          let g : Some unit ≡ Some u = sym e ∙ ap (λ j. slice_get units j) (sym z) ∙ f in
          let same_unit : unit ≡ u = cc in
          and_right _ _ (ap (λ j. own j u) z ∙ ap (own n) (sym same_unit) ∙ t)

      below_more : (k : ℕ) (u : UnitRow) → n ≤ k → k < w.below → slice_get units k ≡ Some u → test k u ≡ false
      below_more k u l m f = elim (ℕ_discrete k n) [
        | yes z ↦ here k u z f
        | no z ↦ other k u f ((newest_step batch (map batch_in units) w.below n ns (sym w.rest_is)).3 k (omega (arith, l, z)) m)
      ]

      further : (found : Option ℕ) → IsFirstFrom w.below test units found → IsFirstFrom n test units found
      further None a = λ k u l f. elim (dec_lt k w.below) [
        | yes m ↦ below_more k u l m f
        | no m ↦ a k u (omega (arith, m)) f
      ]
      further (Some at) a =
          let s = newest_step batch (map batch_in units) w.below n ns (sym w.rest_is) in (
            omega (arith, a.0, s.0),
            a.1,
            λ k u l m f. elim (dec_lt k w.below) [
              | yes b ↦ below_more k u l b f
              | no b ↦ a.2 k u (omega (arith, b)) m f
            ],
          )

  -- and where it ends
  pub walk_ends : (found : Option ℕ) (rest : List ℕ) → rest ≡ [] → IsWalked batch test units rest found → IsFirstIn test units found
  walk_ends found rest z w = ended found w.first
    where
      none_below : (k : ℕ) (u : UnitRow) → k < w.below → slice_get units k ≡ Some u → test k u ≡ false
      none_below k u l f = other k u f (newest_end batch (map batch_in units) w.below (sym w.rest_is ∙ z) k l)

      ended : (found : Option ℕ) → IsFirstFrom w.below test units found → IsFirstIn test units found
      ended None a = λ k u f. elim (dec_lt k w.below) [
        | yes l ↦ none_below k u l f
        | no l ↦ a k u (omega (arith, l)) f
      ]
      ended (Some at) a = (
        a.1,
        λ k u m f. elim (dec_lt k w.below) [
          | yes l ↦ none_below k u l f
          | no l ↦ a.2 k u (omega (arith, l)) m f
        ],
      )
