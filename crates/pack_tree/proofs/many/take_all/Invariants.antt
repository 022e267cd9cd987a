use Rattle.std.proofs.Common.{◌≡◌, drop}
use Rattle.pack_tree.specs.Trees.{packed_of}
use Rattle.pack_tree.specs.Many.{without_all, MayTake}
use Rattle.pack_tree.proofs.many.take_all.Given as goal

abbrev pub invariant-loop-taken : goal.invariant-loop-taken
invariant-loop-taken l = record {
  may : MayTake (packed_of l.tree) (drop l.taken-index l.gone);
  is : without_all (packed_of l.tree) (drop l.taken-index l.gone) ≡ without_all (packed_of l.fn.tree) l.gone;
  units : l.tree.units ≡ l.fn.tree.units;
  rooms : (l.tree.item_room ≡ l.fn.tree.item_room) × (l.tree.unit_room ≡ l.fn.tree.unit_room);
}
