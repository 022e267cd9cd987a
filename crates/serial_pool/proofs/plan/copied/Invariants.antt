use Rattle.std.proofs.Common.{◌≡◌, take}
use Rattle.serial_pool.proofs.plan.copied.Given as goal

abbrev pub invariant-loop-serial : goal.invariant-loop-serial
invariant-loop-serial l = l.copy ≡ take l.serial-index l.serial-items
