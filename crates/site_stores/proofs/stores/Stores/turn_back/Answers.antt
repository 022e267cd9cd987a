use Rattle.std.proofs.Common.{List, length, ap, ◌∙◌}
use Rattle.item_store.specs.declared.row.ItemRow.{ItemRow}
use Rattle.item_store.specs.Rows.{batches}
use Rattle.site_stores.proofs.Turning.{length_back, batches_back, one_turning}
use Rattle.site_stores.proofs.stores.Stores.turn_back.Goals as goal

pub invariant_of-self : goal.invariant_of-self
invariant_of-self c =
    one_turning c.self.inside.book c.self.inside.items c.turn_items_back.new.items c.self.inside.tree c.self.inside.row_room c.self.invariant
    (ap (λ (rs : List ItemRow). length rs) c.turn_items_back.ensures.rows ∙ length_back c.self.inside.items.rows c.args.turns.now)
    (ap batches c.turn_items_back.ensures.rows ∙ batches_back c.self.inside.items.rows c.args.turns.now) c.turn_items_back.ensures.spare
