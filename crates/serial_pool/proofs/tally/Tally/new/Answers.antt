use Rattle.serial_pool.proofs.Tallies.{none_counted}
use Rattle.serial_pool.proofs.tally.Tally.new.Goals as goal

pub invariant_of-result : goal.invariant_of-result
invariant_of-result c = none_counted c.new.result.items c.new-2.result c.new.ensures.items c.new-2.ensures.hashes
