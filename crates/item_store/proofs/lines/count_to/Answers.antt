use Rattle.std.proofs.Common.{◌<◌, length, get_or, ap, subst, ◌∙◌}
use Rattle.item_store.proofs.Lent.{count_at}
use Rattle.item_store.proofs.lines.count_to.Goals as goal

pub returns-then-cell-cells-clause-value : goal.returns-then-cell-cells-clause-value
returns-then-cell-cells-clause-value c =
    ap (λ at. get_or c.args.cells.now at 0) c.pair_cell-cell.ensures.is
    ∙ count_at c.args.rows.now c.args.cells.now c.args.batch c.args.line c.args.class c.requires.tally c.pair_cell-cell.ensures.known (subst (λ n. n < 64) c.line.view_is c.if-line-lt64.true) c.requires.class
    (subst (λ at. at < length c.args.cells.now) c.pair_cell-cell.ensures.is c.if-cell-cells.true)
