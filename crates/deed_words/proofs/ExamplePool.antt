-- A worked example: the pool of a product with six digits, when nearly half of its serials are drawn.
use Rattle.std.proofs.Common.{◌≡◌, ℕ, zero, suc, ◌+◌, Bool, true, List, [], ◌∷◌, refl, ap, ◌∙◌, Option, Some, None, length, replicate}
use Rattle.std.specs.Prelude.{codes, filter, nat_lt}
use Rattle.std.proofs.lemmas.List.{length-replicate}
use Rattle.deed_words.specs.declared.words.Phase.TheVariants.{Planned}
use Rattle.deed_words.specs.declared.words.State.TheVariants.{Fresh}
use Rattle.deed_words.specs.declared.words.What.TheVariants.{Serials}
use Rattle.deed_words.specs.declared.deed.Deed.TheVariants.{Draw}
use Rattle.deed_words.specs.declared.rule.Rule.{Rule}
use Rattle.deed_words.specs.declared.rule.Rule.TheVariants.{PoolThin, SiteFull}
use Rattle.deed_words.specs.declared.world.Row.{Row}
use Rattle.deed_words.specs.Names.{same}
use Rattle.deed_words.specs.Chain.{first, when, holds_of}
use Rattle.deed_words.specs.World.{World, batch_of}
use Rattle.deed_words.specs.Setups.{role_of, product_of, half_pool}
use Rattle.deed_words.specs.Deeds.{batch_named, batch_for}
use Rattle.deed_words.specs.Roles.{is_for, is_planner}
use Rattle.deed_words.specs.Tests.{role_forbids, unknown_batch, is_closed, closed, count_range, out_of_range, full, site_full, rows_of_gtin, thin, asked, pool_thin}
use Rattle.deed_words.specs.Rules.{rules_of, broken}
use Rattle.deed_words.proofs.ExampleSite.{second_product, site, p1, batch, order}

-- a batch of the second product, and some rows
abbrev pool : List Row → World
pool rows = record { batches = record { order = record (order 40 10 4) { gtin = second_product }; quantity = 40; phase = Planned } ∷ []; rows = rows; units = []; pairs = []; declarations = [] }

-- what a draw answers where there are so many rows, and so many of them of the product
abbrev answer_for : ℕ → ℕ → ℕ → Option Rule
answer_for all have count = first (full Serials all count 1000000 ∷ when (nat_lt 500000 (have + count)) (PoolThin count have) ∷ [])

draw_answers : (rows : List Row) (count : ℕ) → count_range count ≡ None → broken site (pool rows) p1 (Draw batch count) ≡ answer_for (length rows) (length (rows_of_gtin (pool rows) second_product)) count
unfolding broken rules_of first when holds_of role_forbids is_for is_planner role_of unknown_batch batch_for batch_of batch_named same closed is_closed out_of_range site_full pool_thin thin asked half_pool product_of
draw_answers rows count fits = rw fits refl

all_pass : {A : Type 0} (test : A → Bool) (x : A) → test x ≡ true → (n : ℕ) → filter test (replicate n x) ≡ replicate n x
all_pass test x is zero = refl
all_pass test x is (suc n) = rw is (ap (λ xs. x ∷ xs) (all_pass test x is n))

abbrev row : Row
row = record { gtin = second_product; serial = codes "000001"; batch = batch; line = None; state = Fresh }

own_pool : (n : ℕ) → length (rows_of_gtin (pool (replicate n row)) second_product) ≡ n
unfolding rows_of_gtin same
own_pool n = ap length (all_pass (λ (r : Row). same r.gtin second_product) row refl n) ∙ length-replicate n row

draw_from : (n count : ℕ) → count_range count ≡ None → broken site (pool (replicate n row)) p1 (Draw batch count) ≡ answer_for n n count
draw_from n count fits =
    draw_answers (replicate n row) count fits
    ∙ ap (λ all. answer_for all (length (rows_of_gtin (pool (replicate n row)) second_product)) count) (length-replicate n row)
    ∙ ap (λ have. answer_for n have count) (own_pool n)

two_asked : broken site (pool (replicate 499999 row)) p1 (Draw batch 2) ≡ Some (PoolThin 2 499999)
unfolding first when full count_range
two_asked = draw_from 499999 2 refl

one_asked : broken site (pool (replicate 499999 row)) p1 (Draw batch 1) ≡ None
unfolding first when full count_range
one_asked = draw_from 499999 1 refl

-- and where nearly a million serials are drawn
two_too_many : broken site (pool (replicate 999999 row)) p1 (Draw batch 2) ≡ Some (SiteFull Serials 999999)
unfolding first when full count_range
two_too_many = draw_from 999999 2 refl
