use Rattle.std.proofs.Common.{◌≡◌, ◌++◌, drop, map}
use Rattle.site_sim.specs.Asking.{item}
use Rattle.site_sim.proofs.asking.items_of.Given as goal

abbrev pub invariant-loop-serial : goal.invariant-loop-serial
invariant-loop-serial l = l.names ++ map item (drop l.serial-index l.serials) ≡ map item l.serials
