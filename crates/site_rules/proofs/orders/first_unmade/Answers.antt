use Rattle.std.proofs.Common.{arith, sym, ◌∙◌}
use Rattle.deed_words.proofs.Each.{each_start, each_found, each_passed, each_done}
use Rattle.site_rules.specs.Rows.{unmade}
use Rattle.site_rules.proofs.orders.first_unmade.Goals as goal

pub loop-index-init : goal.loop-index-init
loop-index-init c = each_start c.args.rows.now (unmade c.args.setup.now)

pub returns-in-Some : goal.returns-in-Some
returns-in-Some c =
    each_found c.args.rows.now (unmade c.args.setup.now) c.loop-index.index c.index-rows-index.result c.in-Some.rule c.loop-index-test.true c.index-rows-index.is (sym c.in-Some.is ∙ c.unmade.ensures) c.loop-index.invariant

pub loop-index-preserved : goal.loop-index-preserved
loop-index-preserved c =
    each_passed c.args.rows.now (unmade c.args.setup.now) c.loop-index.index c.index-rows-index.result c.loop-index-test.true c.index-rows-index.is (sym c.in_default.is ∙ c.unmade.ensures) c.loop-index.invariant

pub returns : goal.returns
returns c = each_done c.args.rows.now (unmade c.args.setup.now) c.loop-index.index (omega arith) c.loop-index.invariant
