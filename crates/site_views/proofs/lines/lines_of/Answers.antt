use Rattle.std.proofs.Common.{arith}
use Rattle.site_views.specs.Own.{row_of_line}
use Rattle.site_views.proofs.Listed.{told_more, told_all}
use Rattle.site_views.proofs.lines.lines_of.Goals as goal

pub loop-line-preserved : goal.loop-line-preserved
loop-line-preserved c =
    told_more (λ k station. row_of_line c.args.batch c.args.items.now.rows k station.name) c.args.stations.now c.loop-line.line c.index-stations-line.result _ c.loop-line.lines c.push_row.new.lines c.row_of-row.result c.loop-line-test.true c.index-stations-line.is
    c.loop-line.invariant c.row_of-row.ensures c.in_ok-push_row.ensures

pub returns : goal.returns
returns c = told_all (λ k station. row_of_line c.args.batch c.args.items.now.rows k station.name) c.args.stations.now c.loop-line.line _ c.loop-line.lines (omega (arith, c.loop-line-test.false)) c.loop-line.invariant
