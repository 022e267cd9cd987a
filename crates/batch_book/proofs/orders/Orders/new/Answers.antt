use Rattle.batch_book.proofs.Named.{ordered_none}
use Rattle.batch_book.proofs.orders.Orders.new.Goals as goal

pub invariant_of-result : goal.invariant_of-result
invariant_of-result c = ordered_none _ _ _ c.new.ensures.items c.new-2.ensures.hashes
