use Rattle.std.proofs.Common.{◌≡◌, ◌++◌, drop}
use Rattle.site_sim.proofs.known.extend.Given as goal

abbrev pub invariant-loop-serial : goal.invariant-loop-serial
invariant-loop-serial l = l.serials ++ drop l.serial-index l.more ≡ l.fn.serials ++ l.more
