use Rattle.std.proofs.Common.{◌≡◌, drop, take, map}
use Rattle.std.specs.Prelude.{vec_capacity}
use Rattle.pack_tree.specs.Trees.{packed_of}
use Rattle.pack_tree.specs.Many.{without_all, MayTake, CanTake}
use Rattle.pack_tree.proofs.many.take_each.Given as goal

abbrev pub invariant-loop-node : goal.invariant-loop-node
invariant-loop-node l = record {
  may : MayTake (packed_of l.fn.tree) l.gone.items;
  is : (packed_of l.tree) ≡ without_all (packed_of l.fn.tree) l.gone.items;
  can : CanTake (packed_of l.tree).pairs (drop l.node-index l.nodes);
  names : map (λ taken. taken.child) l.gone.items ≡ take l.node-index l.nodes;
  room : vec_capacity l.gone ≡ vec_capacity l.fn.gone;
  units : l.tree.units ≡ l.fn.tree.units;
  rooms : (l.tree.item_room ≡ l.fn.tree.item_room) × (l.tree.unit_room ≡ l.fn.tree.unit_room);
}
