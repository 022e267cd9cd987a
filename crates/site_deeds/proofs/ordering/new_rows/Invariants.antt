use Rattle.std.proofs.Common.{◌≡◌, ◌++◌}
use Rattle.deed_words.specs.Orders.{new_orders, orders_in}
use Rattle.batch_book.specs.Content.{world_in}
use Rattle.site_rules.proofs.Ordered.{new_from}
use Rattle.site_deeds.proofs.ordering.new_rows.Given as goal

abbrev pub invariant-loop-index : goal.invariant-loop-index
invariant-loop-index l =
    let orders = orders_in (world_in l.fn.stores.content) in
    new_orders orders l.fn.rows ≡ l.new ++ new_from orders l.fn.rows l.index
