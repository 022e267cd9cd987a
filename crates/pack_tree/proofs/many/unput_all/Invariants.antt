use Rattle.std.proofs.Common.{◌≡◌, length}
use Rattle.pack_tree.specs.Trees.{packed_of}
use Rattle.pack_tree.specs.Many.{but_all_put, WerePut}
use Rattle.pack_tree.proofs.many.unput_all.Given as goal

abbrev pub invariant-loop-node : goal.invariant-loop-node
invariant-loop-node l = record {
  were : WerePut (packed_of l.tree) l.fn.unit l.left;
  is : but_all_put (packed_of l.tree) l.left ≡ but_all_put (packed_of l.fn.tree) l.nodes;
  units : l.tree.units ≡ l.fn.tree.units;
  rooms : (l.tree.item_room ≡ l.fn.tree.item_room) × (l.tree.unit_room ≡ l.fn.tree.unit_room);
}

abbrev pub decreases-loop-node : goal.decreases-loop-node
decreases-loop-node l = length l.left
