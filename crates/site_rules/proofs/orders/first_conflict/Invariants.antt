use Rattle.std.proofs.Common.{◌≡◌, drop}
use Rattle.deed_words.specs.Chain.{each, each_from, first}
use Rattle.batch_book.specs.Content.{world_in}
use Rattle.site_rules.specs.Rows.{conflicting}
use Rattle.site_rules.proofs.orders.first_conflict.Given as goal

abbrev pub invariant-loop-index : goal.invariant-loop-index
invariant-loop-index l =
    let test = conflicting (world_in l.fn.stores.content) l.fn.rows in
    each l.fn.rows test ≡ first (each_from l.index test (drop l.index l.fn.rows))
