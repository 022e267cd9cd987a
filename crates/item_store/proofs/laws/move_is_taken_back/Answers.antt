use Rattle.std.proofs.Common.{◌<◌, List, length, sym, ap, subst, ◌∙◌}
use Rattle.item_store.specs.declared.row.ItemRow.{ItemRow}
use Rattle.item_store.specs.Rows.{changed}
use Rattle.item_store.proofs.Changes.{changed_back, length_changed}
use Rattle.item_store.proofs.laws.move_is_taken_back.Goals as goal

pub set_row-requires-2-clause-range : goal.set_row-requires-2-clause-range
set_row-requires-2-clause-range c = subst (λ n. c.args.item < n) (sym (ap (λ (xs : List ItemRow). length xs) c.set_row.ensures.rows ∙ length_changed c.args.items.now.rows c.args.item c.args.line c.args.state)) c.requires.range

pub returns : goal.returns
returns c =
    let rows = c.set_row-2.ensures.rows ∙ ap (λ (xs : List ItemRow). changed xs c.args.item c.row-was.result.line c.row-was.result.state) c.set_row.ensures.rows
    ∙ changed_back c.args.items.now.rows c.args.item c.row-was.result c.args.line c.args.state c.row-was.ensures.is in
    let spare = c.set_row-2.ensures.spare ∙ c.set_row.ensures.spare in
    λ z. record { rows = rows z; spare = spare z }
