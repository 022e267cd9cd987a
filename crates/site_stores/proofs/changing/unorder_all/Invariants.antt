use Rattle.std.proofs.Common.{◌≡◌, ◌+◌, ◌<◌, length, All}
use Rattle.site_stores.specs.Changes.{unordered, WereOrdered}
use Rattle.site_stores.proofs.changing.unorder_all.Given as goal

abbrev pub invariant-loop-order : goal.invariant-loop-order
invariant-loop-order l = record {
  were : WereOrdered l.book.batches l.left;
  batches : unordered l.book.batches l.left ≡ unordered l.fn.book.batches l.orders;
  declarations : l.book.declarations ≡ l.fn.book.declarations;
  unused : All (λ said. said.batch + length l.left < length l.book.batches) l.book.declarations;
  batch_spare : l.book.batch_spare + length l.left ≡ l.fn.book.batch_spare + length l.orders;
  declaration_spare : l.book.declaration_spare ≡ l.fn.book.declaration_spare;
}

abbrev pub decreases-loop-order : goal.decreases-loop-order
decreases-loop-order l = length l.left
