use Rattle.std.specs.Prelude.{◌↔◌, length}
use Rattle.std.specs.List.{IsDistinct}
use Rattle.deed_words.specs.Names.{same}
use Rattle.deed_words.specs.Setups.{gtins_of}
use Rattle.deed_words.proofs.setup.gtins_differ.Given as goal

abbrev pub invariant-loop-first : goal.invariant-loop-first
invariant-loop-first l = IsDistinct same (gtins_of l.left) ↔ IsDistinct same (gtins_of l.products)

abbrev pub decreases-loop-first : goal.decreases-loop-first
decreases-loop-first l = length l.left
