use Rattle.std.proofs.Common.{arith, get_or, sym, ◌∙◌}
use Rattle.batch_book.specs.Content.{world_in}
use Rattle.site_rules.specs.Rules.{told}
use Rattle.site_rules.specs.Suits.{suits}
use Rattle.site_rules.specs.declared.table.Test.TheVariants.{RoleForbids}
use Rattle.deed_words.proofs.Each.{each_start, each_found, each_passed, each_done}
use Rattle.site_rules.proofs.Tabled.{all_at, there_is}
use Rattle.site_rules.proofs.telling.first_rule.Goals as goal

pub says-requires-clause-suited : goal.says-requires-clause-suited
says-requires-clause-suited c =
    all_at (suits c.args.asked.now.deed.now) c.args.tests.now c.loop-test.test-index (get_or c.args.tests.now c.loop-test.test-index RoleForbids) c.requires.suited c.loop-test-test.true (there_is c.args.tests.now c.loop-test.test-index RoleForbids c.loop-test-test.true)

pub loop-test-init : goal.loop-test-init
loop-test-init c = each_start c.args.tests.now (told c.args.asked.now.setup.now (world_in c.args.asked.now.stores.now.content) c.args.asked.now.station c.args.asked.now.deed.now)

pub returns-in-Some : goal.returns-in-Some
returns-in-Some c =
    each_found c.args.tests.now (told c.args.asked.now.setup.now (world_in c.args.asked.now.stores.now.content) c.args.asked.now.station c.args.asked.now.deed.now) c.loop-test.test-index (get_or c.args.tests.now c.loop-test.test-index RoleForbids) c.in-Some.rule
    c.loop-test-test.true (there_is c.args.tests.now c.loop-test.test-index RoleForbids c.loop-test-test.true) (sym c.in-Some.is ∙ c.says.ensures) c.loop-test.invariant

pub loop-test-preserved : goal.loop-test-preserved
loop-test-preserved c =
    each_passed c.args.tests.now (told c.args.asked.now.setup.now (world_in c.args.asked.now.stores.now.content) c.args.asked.now.station c.args.asked.now.deed.now) c.loop-test.test-index (get_or c.args.tests.now c.loop-test.test-index RoleForbids)
    c.loop-test-test.true (there_is c.args.tests.now c.loop-test.test-index RoleForbids c.loop-test-test.true) (sym c.in_default.is ∙ c.says.ensures) c.loop-test.invariant

pub returns : goal.returns
returns c = each_done c.args.tests.now (told c.args.asked.now.setup.now (world_in c.args.asked.now.stores.now.content) c.args.asked.now.station c.args.asked.now.deed.now) c.loop-test.test-index (omega arith) c.loop-test.invariant
