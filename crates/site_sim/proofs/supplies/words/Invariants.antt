use Rattle.std.proofs.Common.{◌≡◌, map}
use Rattle.site_sim.specs.Requests.{below}
use Rattle.site_sim.specs.Supplies.{word_at}
use Rattle.site_sim.proofs.supplies.words.Given as goal

abbrev pub invariant-loop-k : goal.invariant-loop-k
invariant-loop-k l = l.words.items ≡ map (word_at l.seed) (below l.k)
