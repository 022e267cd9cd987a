use Rattle.std.proofs.Common.{◌≡◌, drop}
use Rattle.deed_words.specs.Chain.{each, each_from, first}
use Rattle.site_rules.specs.Rows.{unmade}
use Rattle.site_rules.proofs.orders.first_unmade.Given as goal

abbrev pub invariant-loop-index : goal.invariant-loop-index
invariant-loop-index l =
    let test = unmade l.fn.setup in
    each l.fn.rows test ≡ first (each_from l.index test (drop l.index l.fn.rows))
