use Rattle.std.proofs.Common.{◌+◌, ◌*◌, ◌<◌, length, get_or, ap, subst, ◌∙◌}
use Rattle.item_store.specs.Rows.{state_code}
use Rattle.item_store.proofs.Tallies.{count_at}
use Rattle.item_store.proofs.tally.count_in.Goals as goal

pub returns-then-cell-cells-clause-value : goal.returns-then-cell-cells-clause-value
returns-then-cell-cells-clause-value c =
    ap (λ b. get_or c.args.cells.now (b * 8 + c.code_of.result) 0) c.batch.view_is
    ∙ ap (λ k. get_or c.args.cells.now (c.args.batch * 8 + k) 0) c.code_of.ensures.value
    ∙ count_at c.args.rows.now c.args.cells.now c.args.batch c.args.state c.requires.tally
    (subst (λ b. b * 8 + state_code c.args.state < length c.args.cells.now) c.batch.view_is (subst (λ k. c.batch.inside.0 * 8 + k < length c.args.cells.now) c.code_of.ensures.value c.if-cell-cells.true))
