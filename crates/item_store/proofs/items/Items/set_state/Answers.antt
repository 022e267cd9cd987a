use Rattle.std.proofs.Common.{◌≡◌, sym, subst, ◌∙◌}
use Rattle.deed_words.specs.declared.words.State.TheVariants.{Fresh}
use Rattle.item_store.specs.declared.row.ItemRow.{ItemRow}
use Rattle.item_store.proofs.Places.{get_or_got, restated_is}
use Rattle.item_store.proofs.items.Items.set_state.Goals as goal

pub set_row-requires-clause-lined : goal.set_row-requires-clause-lined
set_row-requires-clause-lined c =
    let row = c.row-row.result in
    let lent : row.state ≡ Fresh → ⊥ = subst (λ (r : ItemRow). r.state ≡ Fresh → ⊥) (get_or_got c.args.self.now.rows c.args.item _ row c.row-row.ensures.is) (c.requires.lent row) in
    (λ e. absurd (c.requires.to e), λ e. absurd (lent (c.row-row.ensures.lined.1 e)))

pub returns-clause-rows : goal.returns-clause-rows
returns-clause-rows c = c.set_row.ensures.rows ∙ sym (restated_is c.args.self.now.rows c.args.item c.row-row.result c.args.to c.row-row.ensures.is)
