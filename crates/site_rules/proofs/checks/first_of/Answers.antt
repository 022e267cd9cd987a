use Rattle.std.proofs.Common.{arith, sym, ◌∙◌, None}
use Rattle.site_stores.specs.Places.{place_of}
use Rattle.site_rules.proofs.Placed.{placed_within, placed_at}
use Rattle.deed_words.proofs.Each.{each_start, each_found, each_passed, each_done}
use Rattle.site_rules.proofs.checks.first_of.Goals as goal

pub loop-index-init : goal.loop-index-init
loop-index-init g c = each_start c.args.names.now (g.C.Check.says c.args.check.now)

pub returns-in-Some : goal.returns-in-Some
returns-in-Some g c = each_found c.args.names.now (g.C.Check.says c.args.check.now) c.loop-index.index c.index-names-index.result c.in-Some.rule c.loop-index-test.true c.index-names-index.is (sym c.in-Some.is ∙ c.check.ensures) c.loop-index.invariant

pub loop-index-preserved : goal.loop-index-preserved
loop-index-preserved g c = each_passed c.args.names.now (g.C.Check.says c.args.check.now) c.loop-index.index c.index-names-index.result c.loop-index-test.true c.index-names-index.is (sym c.in_default.is ∙ c.check.ensures) c.loop-index.invariant

pub returns : goal.returns
returns g c = each_done c.args.names.now (g.C.Check.says c.args.check.now) c.loop-index.index (omega arith) c.loop-index.invariant

pub bounds-places-index : goal.bounds-places-index
bounds-places-index g c = placed_within (place_of (g.C.Check.content c.args.check.now).rows (g.C.Check.content c.args.check.now).units) c.args.names.now c.args.places.now c.loop-index.index c.requires.places c.loop-index-test.true

pub check-requires : goal.check-requires
check-requires g c =
    record {
      place = placed_at (place_of (g.C.Check.content c.args.check.now).rows (g.C.Check.content c.args.check.now).units) c.args.names.now c.args.places.now c.loop-index.index c.index-names-index.result None c.requires.places c.loop-index-test.true
          c.index-names-index.is;
    }
