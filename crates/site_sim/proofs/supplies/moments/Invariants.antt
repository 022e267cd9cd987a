use Rattle.std.proofs.Common.{◌≡◌, map}
use Rattle.site_sim.specs.Requests.{below}
use Rattle.site_sim.specs.Supplies.{moment_at}
use Rattle.site_sim.proofs.supplies.moments.Given as goal

abbrev pub invariant-loop-k : goal.invariant-loop-k
invariant-loop-k l = l.moments.items ≡ map moment_at (below l.k)
