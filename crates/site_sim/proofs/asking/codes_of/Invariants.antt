use Rattle.std.proofs.Common.{◌≡◌, ◌++◌, drop, map}
use Rattle.site_sim.specs.Asking.{printed}
use Rattle.site_sim.proofs.asking.codes_of.Given as goal

abbrev pub invariant-loop-serial : goal.invariant-loop-serial
invariant-loop-serial l = l.codes ++ map printed (drop l.serial-index l.serials) ≡ map printed l.serials
