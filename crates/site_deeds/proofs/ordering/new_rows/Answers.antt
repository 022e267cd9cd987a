use Rattle.std.proofs.Common.{arith, ◌∙◌}
use Rattle.deed_words.specs.Orders.{orders_in}
use Rattle.batch_book.specs.Content.{world_in}
use Rattle.site_rules.proofs.FirstOrdered.{origins_within, is_new}
use Rattle.site_rules.proofs.Ordered.{kept_more, kept_all}
use Rattle.site_deeds.proofs.ordering.new_rows.Goals as goal

pub bounds-origins-index : goal.bounds-origins-index
bounds-origins-index c = origins_within c.args.stores.now.content c.args.rows.now c.args.origins.now c.loop-index.index c.requires.origins c.loop-index-test.true

pub loop-index-preserved : goal.loop-index-preserved
loop-index-preserved c =
    kept_more (orders_in (world_in c.args.stores.now.content)) c.args.rows.now c.loop-index.new c.keep_new.new.new c.loop-index.index c.index-rows-index.result c.is_row.result c.loop-index-test.true c.index-rows-index.is
    (c.is_row.ensures ∙ is_new c.args.stores.now.content c.args.rows.now c.args.origins.now c.loop-index.index c.index-rows-index.result _ c.requires.origins c.loop-index-test.true c.index-rows-index.is)
    c.in_ok-keep_new.ensures c.loop-index.invariant

pub returns : goal.returns
returns c = kept_all (orders_in (world_in c.args.stores.now.content)) c.args.rows.now c.loop-index.new c.loop-index.index (omega arith) c.loop-index.invariant
