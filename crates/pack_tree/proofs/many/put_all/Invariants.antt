use Rattle.std.proofs.Common.{◌≡◌, drop}
use Rattle.pack_tree.specs.Trees.{packed_of}
use Rattle.pack_tree.specs.Many.{with_all_put, MayPut}
use Rattle.pack_tree.proofs.many.put_all.Given as goal

abbrev pub invariant-loop-node : goal.invariant-loop-node
invariant-loop-node l = record {
  may : MayPut (packed_of l.tree) l.unit (drop l.node-index l.nodes);
  is : with_all_put (packed_of l.tree) l.unit (drop l.node-index l.nodes) ≡ with_all_put (packed_of l.fn.tree) l.unit l.nodes;
  units : l.tree.units ≡ l.fn.tree.units;
  rooms : (l.tree.item_room ≡ l.fn.tree.item_room) × (l.tree.unit_room ≡ l.fn.tree.unit_room);
}
