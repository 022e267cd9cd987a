use Rattle.std.proofs.Common.{◌≡◌, ◌+◌, drop}
use Rattle.site_stores.specs.Changes.{ordered, MayOrder}
use Rattle.site_stores.proofs.changing.order_all.Given as goal

abbrev pub invariant-loop-order : goal.invariant-loop-order
invariant-loop-order l = record {
  may : MayOrder l.book.batches (drop l.order-index l.orders);
  batches : ordered l.book.batches (drop l.order-index l.orders) ≡ ordered l.fn.book.batches l.orders;
  declarations : l.book.declarations ≡ l.fn.book.declarations;
  batch_spare : l.book.batch_spare + l.order-index ≡ l.fn.book.batch_spare;
  declaration_spare : l.book.declaration_spare ≡ l.fn.book.declaration_spare;
}
