use Rattle.std.proofs.Common.{◌≡◌, drop}
use Rattle.deed_words.specs.Chain.{each, each_from, first}
use Rattle.site_rules.proofs.checks.first_of.Given as goal

abbrev pub invariant-loop-index : goal.invariant-loop-index
invariant-loop-index g l = each l.fn.names (g.C.Check.says l.check) ≡ first (each_from l.index (g.C.Check.says l.check) (drop l.index l.fn.names))
