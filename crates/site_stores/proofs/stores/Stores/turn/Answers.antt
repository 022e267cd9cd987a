use Rattle.std.proofs.Common.{List, length, ap, ◌∙◌}
use Rattle.item_store.specs.declared.row.ItemRow.{ItemRow}
use Rattle.item_store.specs.Rows.{batches}
use Rattle.site_stores.proofs.Turning.{length_turned, batches_turned, one_turning}
use Rattle.site_stores.proofs.stores.Stores.turn.Goals as goal

pub invariant_of-self : goal.invariant_of-self
invariant_of-self c =
    one_turning c.self.inside.book c.self.inside.items c.turn_items.new.items c.self.inside.tree c.self.inside.row_room c.self.invariant
    (ap (λ (rs : List ItemRow). length rs) c.turn_items.ensures.rows ∙ length_turned c.self.inside.items.rows c.args.turns.now)
    (ap batches c.turn_items.ensures.rows ∙ batches_turned c.self.inside.items.rows c.args.turns.now) c.turn_items.ensures.spare
