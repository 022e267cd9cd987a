-- A worked example: a site with as many batches as it may have.
use Rattle.std.proofs.Common.{◌≡◌, ℕ, zero, suc, false, [], ◌∷◌, ◌++◌, map, refl, Option, Some, None, replicate}
use Rattle.std.specs.Prelude.{codes, find}
use Rattle.std.specs.List.{list_any}
use Rattle.std.proofs.lemmas.List.{length-replicate}
use Rattle.deed_words.specs.declared.words.What.TheVariants.{Batches}
use Rattle.deed_words.specs.declared.deed.OrderRow.{OrderRow}
use Rattle.deed_words.specs.declared.deed.Deed.TheVariants.{Order}
use Rattle.deed_words.specs.declared.rule.Rule.{Rule}
use Rattle.deed_words.specs.declared.rule.Rule.TheVariants as rule
use Rattle.deed_words.specs.declared.world.Batch.{Batch}
use Rattle.deed_words.specs.Names.{same, same_order}
use Rattle.deed_words.specs.Chain.{first, when, each, each_from, holds_of}
use Rattle.deed_words.specs.World.{World}
use Rattle.deed_words.specs.Setups.{role_of, product_of}
use Rattle.deed_words.specs.Deeds.{order_rows}
use Rattle.deed_words.specs.Orders.{planned, is_ordered, new_orders, orders_in, conflicts}
use Rattle.deed_words.specs.Roles.{is_for, is_planner}
use Rattle.deed_words.specs.Tests.{role_forbids, unknown_product, order_conflict, full, site_full}
use Rattle.deed_words.specs.Rules.{rules_of, broken}
use Rattle.deed_words.proofs.ExampleSite.{site, p1, order}

-- so many batches, and an order of one more
abbrev ordered : ℕ → World
ordered n = record { batches = replicate n (planned (order 40 10 4)); rows = []; units = []; pairs = []; declarations = [] }

abbrev next : OrderRow
next = record (order 40 10 4) { batch = codes "B8" }

none_found : (n : ℕ) → find (λ (o : OrderRow). same o.batch (codes "B8")) (map (λ (b : Batch). b.order) (replicate n (planned (order 40 10 4))) ++ next ∷ []) ≡ Some next
unfolding same
none_found zero = refl
none_found (suc n) = none_found n

none_ordered : (n : ℕ) → list_any (λ (o : OrderRow). same o.batch (codes "B8")) (map (λ (b : Batch). b.order) (replicate n (planned (order 40 10 4)))) ≡ false
unfolding same
none_ordered zero = refl
none_ordered (suc n) = none_ordered n

-- the next order answers by the number of batches alone
order_answers : (n : ℕ) → broken site (ordered n) p1 (Order next) ≡ full Batches n 1 4096
unfolding broken rules_of first when each each_from holds_of role_forbids is_for is_planner role_of unknown_product order_rows product_of order_conflict conflicts orders_in site_full new_orders is_ordered full same same_order
order_answers n = rw (none_found n, length-replicate n (planned (order 40 10 4)), none_ordered n) (done (full Batches n 1 4096))
  where
    done : (answer : Option Rule) → first (answer ∷ []) ≡ answer
    done None = refl
    done (Some rule) = refl

no_batch_more : broken site (ordered 4096) p1 (Order next) ≡ Some (rule.SiteFull Batches 4096)
unfolding full when
no_batch_more = order_answers 4096

one_batch_more : broken site (ordered 4095) p1 (Order next) ≡ None
unfolding full when
one_batch_more = order_answers 4095
