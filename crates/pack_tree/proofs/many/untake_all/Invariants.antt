use Rattle.std.proofs.Common.{◌≡◌, length}
use Rattle.pack_tree.specs.Trees.{packed_of}
use Rattle.pack_tree.specs.Many.{with_all_back, WereTaken}
use Rattle.pack_tree.proofs.many.untake_all.Given as goal

abbrev pub invariant-loop-taken : goal.invariant-loop-taken
invariant-loop-taken l = record {
  were : WereTaken (packed_of l.tree) l.left;
  is : with_all_back (packed_of l.tree) l.left ≡ with_all_back (packed_of l.fn.tree) l.gone;
  units : l.tree.units ≡ l.fn.tree.units;
  rooms : (l.tree.item_room ≡ l.fn.tree.item_room) × (l.tree.unit_room ≡ l.fn.tree.unit_room);
}

abbrev pub decreases-loop-taken : goal.decreases-loop-taken
decreases-loop-taken l = length l.left
