use Rattle.std.proofs.Common.{◌≡◌, map}
use Rattle.std.specs.List.{range_with_len}
use Rattle.epc_urn.specs.declared.epc.Epc.TheVariants.{Unit as Box}
use Rattle.site_sim.specs.Asking.{unit}
use Rattle.site_sim.proofs.asking.units_of.Given as goal

abbrev pub invariant-loop-k : goal.invariant-loop-k
invariant-loop-k l = l.names ≡ map (λ place. Box (unit place)) (range_with_len l.part.from l.k)
