use Rattle.std.proofs.Common.{refl, ap, ◌∙◌}
use Rattle.item_store.specs.Cells.{lowered}
use Rattle.item_store.proofs.Changes.{store_pop}
use Rattle.item_store.proofs.items.Items.remove_last.Goals as goal

pub invariant_of-self : goal.invariant_of-self
invariant_of-self c =
    store_pop _ _ _ _ _ _ _ _ _ _ _ _ _ _ _ c.self.inside.cursors.items c.self.invariant c.take_last-row.ensures.items c.remove_last.ensures.hashes c.remove_last.ensures.room c.remove_last-2.ensures.groups c.remove_last-2.ensures.room c.take_last-row.ensures.capacity refl
    (c.lower.ensures ∙ ap (lowered c.self.inside.by_state.items) c.state_cell.ensures)
    (c.lower-2.ensures ∙ ap (lowered c.self.inside.by_line.items) c.line_cell.ensures)
