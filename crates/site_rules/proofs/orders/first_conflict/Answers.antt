use Rattle.std.proofs.Common.{arith, sym, ◌∙◌}
use Rattle.deed_words.proofs.Each.{each_start, each_found, each_passed, each_done}
use Rattle.batch_book.specs.Content.{world_in}
use Rattle.site_rules.specs.Rows.{conflicting}
use Rattle.site_rules.proofs.FirstOrdered.{origin_at, origins_within}
use Rattle.site_rules.proofs.orders.first_conflict.Goals as goal

pub loop-index-init : goal.loop-index-init
loop-index-init c = each_start c.args.rows.now (conflicting (world_in c.args.stores.now.content) c.args.rows.now)

pub bounds-origins-index : goal.bounds-origins-index
bounds-origins-index c = origins_within c.args.stores.now.content c.args.rows.now c.args.origins.now c.loop-index.index c.requires.origins c.loop-index-test.true

pub conflicting-requires-clause-origin : goal.conflicting-requires-clause-origin
conflicting-requires-clause-origin c =
    origin_at c.args.stores.now.content c.args.rows.now c.args.origins.now c.loop-index.index c.index-rows-index.result _ c.requires.origins c.loop-index-test.true c.index-rows-index.is

pub returns-in-Some : goal.returns-in-Some
returns-in-Some c =
    each_found c.args.rows.now (conflicting (world_in c.args.stores.now.content) c.args.rows.now) c.loop-index.index c.index-rows-index.result c.in-Some.rule c.loop-index-test.true c.index-rows-index.is (sym c.in-Some.is ∙ c.conflicting.ensures) c.loop-index.invariant

pub loop-index-preserved : goal.loop-index-preserved
loop-index-preserved c =
    each_passed c.args.rows.now (conflicting (world_in c.args.stores.now.content) c.args.rows.now) c.loop-index.index c.index-rows-index.result c.loop-index-test.true c.index-rows-index.is (sym c.in_default.is ∙ c.conflicting.ensures) c.loop-index.invariant

pub returns : goal.returns
returns c = each_done c.args.rows.now (conflicting (world_in c.args.stores.now.content) c.args.rows.now) c.loop-index.index (omega arith) c.loop-index.invariant
