use Rattle.std.proofs.Common.{◌≡◌, drop}
use Rattle.deed_words.specs.Chain.{each, each_from, first}
use Rattle.batch_book.specs.Content.{world_in}
use Rattle.site_rules.specs.Rules.{told}
use Rattle.site_rules.proofs.telling.first_rule.Given as goal

abbrev pub invariant-loop-test : goal.invariant-loop-test
invariant-loop-test l =
    let says = told l.fn.asked.setup.now (world_in l.fn.asked.stores.now.content) l.fn.asked.station l.fn.asked.deed.now in
    each l.fn.tests says ≡ first (each_from l.test-index says (drop l.test-index l.fn.tests))
