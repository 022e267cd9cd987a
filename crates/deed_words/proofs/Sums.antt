-- How the rows of a GTIN stand is the sum of how those of its batches stand.
use Rattle.std.proofs.Common.{◌≡◌, ℕ, ◌+◌, Bool, true, false, cond, List, [], ◌∷◌, length, map, sym, ◌∙◌, ap, refl, subst, arith, Some}
use Rattle.std.specs.Prelude.{filter, find, sum_by, if◌then◌else◌}
use Rattle.std.specs.List.{AllByRecursion as Every, IsDistinct}
use Rattle.std.proofs.lemmas.List.Sums.{sum_by-cons}
use Rattle.std.proofs.lemmas.Map.Keys.{IsDistinct-head, IsDistinct-tail}
use Rattle.deed_words.specs.declared.words.State.{State}
use Rattle.deed_words.specs.declared.world.Batch.{Batch}
use Rattle.deed_words.specs.declared.world.Row.{Row}
use Rattle.deed_words.specs.Names.{Text, same}
use Rattle.deed_words.specs.World.{World, batch_of, rows_in}
use Rattle.deed_words.specs.Setups.{Setup, IsProper}
use Rattle.deed_words.specs.Tests.{rows_of_gtin}
use Rattle.deed_words.specs.Accounts.{how_many}
use Rattle.deed_words.specs.declared.entry.Entry.{Entry}
use Rattle.deed_words.specs.History.{world_of, IsLawful}
use Rattle.deed_words.specs.Counts.{counts_of, counts_of_gtin, drawn_of, drawn_of_gtin, batches_of_gtin}
use Rattle.deed_words.specs.Sound.{IsSound, HasBatch}
use Rattle.deed_words.proofs.Sameness.{same-true, same_equiv}
use Rattle.deed_words.proofs.Items.{Every-of_map}
use Rattle.deed_words.proofs.Counting.{total_over, sum_alike, counts_sum_up, gtin_sums_up}
use Rattle.deed_words.proofs.Soundness.{lawful_is_sound}

-- the number, for the batch of that name
abbrev share : ℕ → Text → Batch → ℕ
share n name batch = if same name batch.order.batch then n else 0

none_shares : (n : ℕ) (name : Text) (keep : Batch → Bool) (batches : List Batch) → Every (λ batch. same name batch.order.batch ≡ false) batches → sum_by (share n name) (filter keep batches) ≡ 0
none_shares n name keep [] a = refl
none_shares n name keep (batch ∷ batches) a =
    let rest = none_shares n name keep batches a.1 in
    let nothing : share n name batch ≡ 0 = rw (a.0) refl in
    elim (keep batch) as (λ k. sum_by (share n name) (cond k (batch ∷ filter keep batches) (filter keep batches)) ≡ 0) [ true ↦ omega (arith, sum_by-cons (share n name) batch (filter keep batches), nothing, rest) | false ↦ rest ]

-- of batches whose names differ, the one of that name alone has a share
one_shares : (n : ℕ) (name gtin : Text) (batches : List Batch) (due : Batch) → IsDistinct same (map (λ batch. batch.order.batch) batches) → find (λ batch. same batch.order.batch name) batches ≡ Some due
    → sum_by (share n name) (filter (λ batch. same batch.order.gtin gtin) batches) ≡ (if same due.order.gtin gtin then n else 0)
one_shares n name gtin [] due d found = absurd cc
one_shares n name gtin (batch ∷ batches) due d found =
    let keep : Batch → Bool = λ b. same b.order.gtin gtin in
    let others : List Batch = filter keep batches in
    (elim (same batch.order.batch name) as (λ k. same batch.order.batch name ≡ k → cond k (Some batch) (find (λ (b : Batch). same b.order.batch name) batches) ≡ Some due
    → sum_by (share n name) (cond (keep batch) (batch ∷ others) others) ≡ (if same due.order.gtin gtin then n else 0)) [
      | true ↦ λ e f.
          let is : batch ≡ due = cc in
          let named : batch.order.batch ≡ name = same-true batch.order.batch name e in
          let apart : Every (λ b. same name b.order.batch ≡ false) batches =
          subst (λ (m : Text). Every (λ b. same m b.order.batch ≡ false) batches) named (Every-of_map (λ (m : Text). same batch.order.batch m ≡ false) (λ (b : Batch). b.order.batch) batches (IsDistinct-head same batch.order.batch (map (λ (b : Batch). b.order.batch) batches) d)) in
          let rest = none_shares n name keep batches apart in
          let own : share n name batch ≡ n = rw (same_equiv.symm name batch.order.batch ∙ e) refl in
          subst (λ (b : Batch). sum_by (share n name) (cond (keep batch) (batch ∷ others) others) ≡ (if same b.order.gtin gtin then n else 0)) is
          (elim (keep batch) as (λ k. sum_by (share n name) (cond k (batch ∷ others) others) ≡ (if k then n else 0)) [ true ↦ omega (arith, sum_by-cons (share n name) batch others, own, rest) | false ↦ rest ])
      | false ↦ λ e f.
          let rest = one_shares n name gtin batches due (IsDistinct-tail same batch.order.batch (map (λ (b : Batch). b.order.batch) batches) d) f in
          let nothing : share n name batch ≡ 0 = rw (same_equiv.symm name batch.order.batch ∙ e) refl in
          elim (keep batch) as (λ k. sum_by (share n name) (cond k (batch ∷ others) others) ≡ (if same due.order.gtin gtin then n else 0)) [ true ↦ omega (arith, sum_by-cons (share n name) batch others, nothing, rest) | false ↦ rest ]
    ]) refl found

-- one row more
one_more : (test of : Row → Bool) (row : Row) (rows : List Row)
    → length (filter test (filter of (row ∷ rows))) ≡ (if of row then (if test row then 1 else 0) else 0) + length (filter test (filter of rows))
one_more test of row rows =
    let more : List Row = filter of rows in
    elim (of row) as (λ k. length (filter test (cond k (row ∷ more) more)) ≡ (if k then (if test row then 1 else 0) else 0) + length (filter test more)) [
      | true ↦ elim (test row) as (λ t. length (cond t (row ∷ filter test more) (filter test more)) ≡ (if t then 1 else 0) + length (filter test more)) [ true ↦ omega arith | false ↦ omega arith ]
      | false ↦ omega arith
    ]

sum_split : {A : Type 0} (f g h : A → ℕ) → ((x : A) → f x ≡ g x + h x) → (xs : List A) → sum_by f xs ≡ sum_by g xs + sum_by h xs
sum_split f g h e [] = refl
sum_split f g h e (x ∷ xs) = let here = e x in let rest = sum_split f g h e xs in omega (arith, sum_by-cons f x xs, sum_by-cons g x xs, sum_by-cons h x xs, here, rest)

sum_nothing : {A : Type 0} (f : A → ℕ) → ((x : A) → f x ≡ 0) → (xs : List A) → sum_by f xs ≡ 0
sum_nothing f e [] = refl
sum_nothing f e (x ∷ xs) = let here = e x in let rest = sum_nothing f e xs in omega (arith, sum_by-cons f x xs, here, rest)

abbrev in_batch : (Row → Bool) → List Row → Batch → ℕ
in_batch test rows batch = length (filter test (filter (λ row. same row.batch batch.order.batch) rows))

rows_sum : (w : World) (test : Row → Bool) (gtin : Text) → IsDistinct same (map (λ batch. batch.order.batch) w.batches) → (rows : List Row) → Every (HasBatch w) rows
    → length (filter test (filter (λ row. same row.gtin gtin) rows)) ≡ sum_by (in_batch test rows) (filter (λ batch. same batch.order.gtin gtin) w.batches)
unfolding HasBatch batch_of
rows_sum w test gtin d [] a = sym (sum_nothing (in_batch test []) (λ batch. refl) (filter (λ (batch : Batch). same batch.order.gtin gtin) w.batches))
rows_sum w test gtin d (row ∷ rows) a =
    let batches : List Batch = filter (λ (batch : Batch). same batch.order.gtin gtin) w.batches in
    let n : ℕ = if test row then 1 else 0 in
    let left = one_more test (λ (r : Row). same r.gtin gtin) row rows in
    let split : sum_by (in_batch test (row ∷ rows)) batches ≡ sum_by (share n row.batch) batches + sum_by (in_batch test rows) batches =
    sum_split (in_batch test (row ∷ rows)) (share n row.batch) (in_batch test rows) (λ batch. one_more test (λ (r : Row). same r.batch batch.order.batch) row rows) batches in
    let own : sum_by (share n row.batch) batches ≡ (if same row.gtin gtin then n else 0) = subst (λ (g : Text). sum_by (share n row.batch) batches ≡ (if same g gtin then n else 0)) a.0.2 (one_shares n row.batch gtin w.batches a.0.0 d a.0.1) in
    let rest = rows_sum w test gtin d rows a.1 in
    omega (arith, left, split, own, rest)

pub gtin_is_sum : (site : Setup) (w : World) (gtin : Text) (test : State → Bool) → IsSound site w → how_many test (rows_of_gtin w gtin) ≡ sum_by (λ batch. how_many test (rows_in w batch.order.batch)) (batches_of_gtin w gtin)
unfolding how_many rows_of_gtin rows_in batches_of_gtin
gtin_is_sum site w gtin test s = rows_sum w (λ row. test row.state) gtin s.batches_differ w.rows s.of_a_batch

-- ---- what was drawn for a GTIN is the sum of what was drawn for its batches

filter_all : {A : Type 0} (xs : List A) → filter (λ x. true) xs ≡ xs
filter_all [] = refl
filter_all {A} (x ∷ xs) = ap (λ (ys : List A). x ∷ ys) (filter_all xs)

abbrev any_row : Row → Bool
any_row row = true

drawn_is : (site : Setup) (history : List Entry) (name : Text) → IsLawful site history → length (rows_in (world_of site history) name) ≡ drawn_of history name
unfolding counts_of
drawn_is site history name lawful = sym (total_over (rows_in (world_of site history) name)) ∙ counts_sum_up site history name lawful

gtin_drawn_is : (site : Setup) (history : List Entry) (gtin : Text) → IsLawful site history → drawn_of_gtin site history gtin ≡ length (rows_of_gtin (world_of site history) gtin)
unfolding counts_of_gtin
gtin_drawn_is site history gtin lawful = sym (gtin_sums_up site history gtin lawful) ∙ total_over (rows_of_gtin (world_of site history) gtin)

pub drawn_is_sum : (site : Setup) (history : List Entry) (gtin : Text) → IsProper site → IsLawful site history
    → drawn_of_gtin site history gtin ≡ sum_by (λ batch. drawn_of history batch.order.batch) (batches_of_gtin (world_of site history) gtin)
unfolding rows_of_gtin rows_in batches_of_gtin
drawn_is_sum site history gtin proper lawful =
    let w : World = world_of site history in
    let s : IsSound site w = lawful_is_sound site history proper lawful in
    gtin_drawn_is site history gtin lawful
    ∙ ap length (sym (filter_all (rows_of_gtin w gtin)))
    ∙ rows_sum w any_row gtin s.batches_differ w.rows s.of_a_batch
    ∙ sum_alike (in_batch any_row w.rows) (λ batch. drawn_of history batch.order.batch) (λ batch. ap length (filter_all (rows_in w batch.order.batch)) ∙ drawn_is site history batch.order.batch lawful) (batches_of_gtin w gtin)
