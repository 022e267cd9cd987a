use Rattle.std.proofs.Common.{◌≡◌, ◌≤◌, ◌+◌, length}
use Rattle.deed_words.specs.Deeds.{order_rows}
use Rattle.deed_words.specs.Orders.{orders_in, new_orders}
use Rattle.batch_book.specs.Content.{world_in}
use Rattle.site_rules.proofs.Ordered.{new_from}
use Rattle.site_rules.proofs.orders.count_new.Given as goal

abbrev pub invariant-loop-index : goal.invariant-loop-index
invariant-loop-index l =
    let orders = orders_in (world_in l.fn.asked.stores.now.content) in
    let rows = order_rows l.fn.asked.deed.now in
    record {
      few : l.count ≤ l.index;
      counted : l.count + length (new_from orders rows l.index) ≡ length (new_orders orders rows);
    }
