use Rattle.std.proofs.Common.{◌≡◌, ◌+◌, drop}
use Rattle.site_stores.specs.Changes.{drawn, MayDraw}
use Rattle.site_stores.proofs.drawing.draw_all.Given as goal

abbrev pub invariant-loop-serial : goal.invariant-loop-serial
invariant-loop-serial l = record {
  may : MayDraw l.batch l.gtin l.items.rows (drop l.serial-index l.serials);
  rows : drawn l.batch l.gtin l.items.rows (drop l.serial-index l.serials) ≡ drawn l.batch l.gtin l.fn.items.rows l.serials;
  spare : l.items.spare + l.serial-index ≡ l.fn.items.spare;
  pairs : l.tree.pairs ≡ l.fn.tree.pairs;
  last : l.tree.last ≡ l.fn.tree.last;
  items : l.tree.items ≡ l.fn.tree.items + l.serial-index;
  units : l.tree.units ≡ l.fn.tree.units;
  rooms : (l.tree.item_room ≡ l.fn.tree.item_room) × (l.tree.unit_room ≡ l.fn.tree.unit_room);
}
