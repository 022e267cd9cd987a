use Rattle.std.proofs.Common.{◌≡◌, ◌∙◌, arith}
use Rattle.pack_tree.proofs.Stepping.{next_ok, next_may, next_all}
use Rattle.site_stores.specs.Changes.{one_drawn, IsNewRow}
use Rattle.site_stores.proofs.drawing.draw_all.Goals as goal

pub add-item-requires-clause-new : goal.add-item-requires-clause-new
add-item-requires-clause-new c =
    (next_ok (one_drawn c.args.batch c.args.gtin.now) (IsNewRow c.args.gtin.now) c.loop-serial.items.rows c.args.serials.now c.loop-serial.serial-index c.serial-item.result c.loop-serial-test.true c.serial-item.is c.loop-serial.invariant.may).new

pub loop-serial-preserved : goal.loop-serial-preserved
loop-serial-preserved c =
    let step = one_drawn c.args.batch c.args.gtin.now in
    let ok = IsNewRow c.args.gtin.now in
    let new : c.add-item.new.self.rows ≡ step c.loop-serial.items.rows c.serial-item.result = c.add-item.ensures.rows in
    record {
      may = next_may step ok c.loop-serial.items.rows c.add-item.new.self.rows c.args.serials.now c.loop-serial.serial-index c.serial-item.result c.loop-serial-test.true c.serial-item.is new c.loop-serial.invariant.may;
      rows = next_all step ok c.loop-serial.items.rows c.add-item.new.self.rows c.args.serials.now c.loop-serial.serial-index c.serial-item.result c.loop-serial-test.true c.serial-item.is new ∙ c.loop-serial.invariant.rows;
      spare = omega (arith, c.add-item.ensures.spare, c.loop-serial.invariant.spare);
      pairs = c.add_item.ensures.pairs ∙ c.loop-serial.invariant.pairs;
      last = c.add_item.ensures.last ∙ c.loop-serial.invariant.last;
      items = omega (arith, c.add_item.ensures.items, c.loop-serial.invariant.items);
      units = c.add_item.ensures.units ∙ c.loop-serial.invariant.units;
      rooms = (c.add_item.ensures.rooms.0 ∙ c.loop-serial.invariant.rooms.0, c.add_item.ensures.rooms.1 ∙ c.loop-serial.invariant.rooms.1);
    }
