use Rattle.std.proofs.Common.{◌+◌, ◌<◌, length, sym, subst, arith}
use Rattle.pack_tree.specs.Trees.{Forest}
use Rattle.pack_tree.proofs.Standing.{more_there}
use Rattle.pack_tree.proofs.tree.Tree.add_item.Goals as goal

pub invariant_of-self : goal.invariant_of-self
invariant_of-self c =
    let s = c.self.invariant in
    let room : c.self.inside.items < c.self.inside.item_room = subst (λ (v : Forest). v.items < v.item_room) (sym c.self.view_is) c.requires.room in
    record {
      items_within = omega (arith, room);
      items_fit = s.items_fit;
      units_fit = s.units_fit;
      units_within = s.units_within;
      there = more_there c.self.inside.items (length c.self.inside.units.rows) (c.self.inside.items + 1) (length c.self.inside.units.rows) (omega arith) (omega arith) c.self.inside.packing.pairs s.there;
    }
