use Rattle.std.proofs.Common.{◌≡◌, ◌+◌, length}
use Rattle.site_stores.specs.Changes.{undrawn, WereDrawn}
use Rattle.site_stores.proofs.drawing.undraw_all.Given as goal

abbrev pub invariant-loop-serial : goal.invariant-loop-serial
invariant-loop-serial l = record {
  were : WereDrawn l.fn.batch l.fn.gtin l.items.rows l.left;
  rows : undrawn l.items.rows l.left ≡ undrawn l.fn.items.rows l.serials;
  counted : l.tree.items ≡ length l.items.rows;
  spare : l.items.spare + length l.left ≡ l.fn.items.spare + length l.serials;
  pairs : l.tree.pairs ≡ l.fn.tree.pairs;
  last : l.tree.last ≡ l.fn.tree.last;
  items : l.tree.items + length l.serials ≡ l.fn.tree.items + length l.left;
  units : l.tree.units ≡ l.fn.tree.units;
  rooms : (l.tree.item_room ≡ l.fn.tree.item_room) × (l.tree.unit_room ≡ l.fn.tree.unit_room);
}

abbrev pub decreases-loop-serial : goal.decreases-loop-serial
decreases-loop-serial l = length l.left
