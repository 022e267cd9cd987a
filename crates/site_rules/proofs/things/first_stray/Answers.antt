use Rattle.std.proofs.Common.{arith, sym, ◌∙◌, None}
use Rattle.deed_words.specs.Deeds.{item_of}
use Rattle.site_stores.specs.Places.{place_of}
use Rattle.site_rules.proofs.Placed.{made_within, made_at}
use Rattle.deed_words.proofs.Each.{each_start, each_found, each_passed, each_done}
use Rattle.batch_book.specs.Content.{world_in}
use Rattle.site_rules.specs.Rows.{stray}
use Rattle.site_rules.proofs.things.first_stray.Goals as goal

pub loop-index-init : goal.loop-index-init
loop-index-init c = each_start c.args.codes.now (stray (world_in c.args.stores.now.content) c.args.name.now)

pub returns-in-Some : goal.returns-in-Some
returns-in-Some c =
    each_found c.args.codes.now (stray (world_in c.args.stores.now.content) c.args.name.now) c.loop-index.index c.index-codes-index.result c.in-Some.rule c.loop-index-test.true c.index-codes-index.is
    (sym c.in-Some.is ∙ c.stray.ensures) c.loop-index.invariant

pub loop-index-preserved : goal.loop-index-preserved
loop-index-preserved c =
    each_passed c.args.codes.now (stray (world_in c.args.stores.now.content) c.args.name.now) c.loop-index.index c.index-codes-index.result c.loop-index-test.true c.index-codes-index.is
    (sym c.in_default.is ∙ c.stray.ensures) c.loop-index.invariant

pub returns : goal.returns
returns c = each_done c.args.codes.now (stray (world_in c.args.stores.now.content) c.args.name.now) c.loop-index.index (omega arith) c.loop-index.invariant

pub bounds-places-index : goal.bounds-places-index
bounds-places-index c = made_within (place_of c.args.stores.now.content.rows c.args.stores.now.content.units) item_of c.args.codes.now c.args.places.now c.loop-index.index c.requires.places c.loop-index-test.true

pub stray-requires-clause-place : goal.stray-requires-clause-place
stray-requires-clause-place c =
    made_at (place_of c.args.stores.now.content.rows c.args.stores.now.content.units) item_of c.args.codes.now c.args.places.now c.loop-index.index c.index-codes-index.result None c.requires.places c.loop-index-test.true c.index-codes-index.is
