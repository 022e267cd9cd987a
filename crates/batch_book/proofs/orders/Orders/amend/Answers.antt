use Rattle.std.proofs.Common.{refl}
use Rattle.batch_book.specs.Batches.{with_quantity}
use Rattle.batch_book.proofs.Named.{ordered_changed}
use Rattle.batch_book.proofs.orders.Orders.amend.Goals as goal

pub invariant_of-self : goal.invariant_of-self
invariant_of-self c = ordered_changed (with_quantity c.args.quantity) (λ b. refl) _ _ _ _ _ _ c.args.at c.self.invariant c.set_quantity_at.ensures.batches c.set_quantity_at.ensures.capacity
