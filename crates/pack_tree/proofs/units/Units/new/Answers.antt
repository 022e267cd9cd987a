use Rattle.pack_tree.proofs.Shelves.{shelf_none}
use Rattle.pack_tree.proofs.units.Units.new.Goals as goal

pub invariant_of-result : goal.invariant_of-result
invariant_of-result c = shelf_none _ _ _ _ _ c.new.ensures.items c.new-2.ensures.hashes c.new-2.ensures.room c.new-3.ensures.items c.new-4.ensures.items
