use Rattle.std.proofs.Common.{◌≡◌, ◌∙◌, arith}
use Rattle.pack_tree.proofs.Stepping.{next_ok, next_may, next_all}
use Rattle.site_stores.specs.Changes.{one_ordered, IsNew}
use Rattle.site_stores.proofs.changing.order_all.Goals as goal

pub add-batch-requires-clause-new : goal.add-batch-requires-clause-new
add-batch-requires-clause-new c =
    (next_ok one_ordered IsNew c.loop-order.book.batches c.args.orders.now c.loop-order.order-index c.order-item.result c.loop-order-test.true c.order-item.is c.loop-order.invariant.may).new

pub loop-order-preserved : goal.loop-order-preserved
loop-order-preserved c =
    let new : c.add-batch.new.self.batches ≡ one_ordered c.loop-order.book.batches c.order-item.result = c.add-batch.ensures.batches in
    record {
      may = next_may one_ordered IsNew c.loop-order.book.batches c.add-batch.new.self.batches c.args.orders.now c.loop-order.order-index c.order-item.result c.loop-order-test.true c.order-item.is new c.loop-order.invariant.may;
      batches = next_all one_ordered IsNew c.loop-order.book.batches c.add-batch.new.self.batches c.args.orders.now c.loop-order.order-index c.order-item.result c.loop-order-test.true c.order-item.is new ∙ c.loop-order.invariant.batches;
      declarations = c.add-batch.ensures.declarations ∙ c.loop-order.invariant.declarations;
      batch_spare = omega (arith, c.add-batch.ensures.batch_spare, c.loop-order.invariant.batch_spare);
      declaration_spare = c.add-batch.ensures.declaration_spare ∙ c.loop-order.invariant.declaration_spare;
    }
