use Rattle.std.proofs.Common.{arith, length, map, Some, ap, ◌∙◌}
use Rattle.deed_words.specs.Deeds.{order_rows}
use Rattle.deed_words.specs.Orders.{orders_in, new_orders}
use Rattle.batch_book.specs.Content.{world_in}
use Rattle.site_rules.proofs.FirstOrdered.{counted_more, counted_to_end}
use Rattle.site_rules.proofs.orders.count_new.Goals as goal

pub loop-index-preserved : goal.loop-index-preserved
loop-index-preserved c =
    let rows = order_rows c.args.asked.now.deed.now in
    let k = c.args.asked.now.stores.now.content in
    let are = ap (map Some) c.deref-origin-items.ensures.value ∙ c.requires.asked.origins_are in
    record {
      few = omega (arith, c.loop-index.invariant.few, c.added-count.ensures.few);
      counted =
          counted_more k rows c.deref-origin-items.result.now c.loop-index.index c.loop-index.count (length (new_orders (orders_in (world_in k)) rows)) c.added-count.result _ are c.loop-index-test.true c.added-count.ensures.is
          c.loop-index.invariant.counted;
    }

pub returns-clause-is : goal.returns-clause-is
returns-clause-is c =
    counted_to_end c.args.asked.now.stores.now.content (order_rows c.args.asked.now.deed.now) c.deref-origin-items.result.now c.loop-index.index c.loop-index.count (ap (map Some) c.deref-origin-items.ensures.value ∙ c.requires.asked.origins_are)
    c.loop-index-test.false c.loop-index.invariant.counted
