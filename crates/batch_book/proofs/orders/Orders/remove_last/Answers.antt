use Rattle.std.proofs.Common.{refl}
use Rattle.batch_book.proofs.Named.{ordered_pop}
use Rattle.batch_book.proofs.orders.Orders.remove_last.Goals as goal

pub invariant_of-self : goal.invariant_of-self
invariant_of-self c =
    ordered_pop _ _ _ _ _ _ _ _ _ c.self.invariant c.take_last-batch.ensures.items c.remove_last.ensures.hashes c.remove_last.ensures.room c.take_last-batch.ensures.capacity refl
