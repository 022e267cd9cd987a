use Rattle.serial_pool.proofs.Holding.{nothing_drawn, nothing_kept}
use Rattle.serial_pool.proofs.pool.Pool.new.Goals as goal

pub invariant_of-result : goal.invariant_of-result
invariant_of-result c = (nothing_drawn c.new.result.items c.new.ensures.items, nothing_kept c.new.result.items c.new-2.result c.new-3.result _ c.new.ensures.items c.new-2.ensures.hashes c.new-3.ensures)
