use Rattle.pack_tree.proofs.Shelves.{shelf_marked}
use Rattle.pack_tree.proofs.units.Units.set_mark.Goals as goal

pub invariant_of-self : goal.invariant_of-self
invariant_of-self c = shelf_marked _ _ _ _ _ _ c.args.at c.args.mark _ _ c.self.invariant c.set_mark_at.ensures.rows c.set_mark_at.ensures.capacity
