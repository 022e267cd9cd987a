use Rattle.std.proofs.Common.{ℕ, ◌≤◌, List, length, sym, subst}
use Rattle.std.specs.List.{AllByRecursion as Every}
use Rattle.pack_tree.specs.declared.link.Pair.{Pair}
use Rattle.pack_tree.specs.Packing.{IsThereIn}
use Rattle.pack_tree.specs.Taking.{IsGone, taken_pair}
use Rattle.pack_tree.specs.Trees.{Forest, packed_of}
use Rattle.pack_tree.proofs.Standing.{every_insert}
use Rattle.pack_tree.proofs.tree.Tree.untake.Goals as goal

pub invariant_of-self : goal.invariant_of-self
invariant_of-self c =
    let s = c.self.invariant in
    let P = IsThereIn c.self.inside.items (length c.self.inside.units.rows) in
    let gone : IsGone (packed_of (record { pairs = c.self.inside.packing.pairs; last = c.self.inside.packing.last; items = c.self.inside.items; units = c.self.inside.units.rows; item_room = c.self.inside.item_room; unit_room = c.self.inside.units.room })) c.args.taken
    = subst (λ (v : Forest). IsGone (packed_of v) c.args.taken) (sym c.self.view_is) c.requires.gone in
    record {
      items_within = s.items_within;
      items_fit = subst (λ (k : ℕ). c.self.inside.item_room ≤ k) (sym c.untake.ensures.rooms.0) s.items_fit;
      units_fit = subst (λ (k : ℕ). c.self.inside.units.room ≤ k) (sym c.untake.ensures.rooms.1) s.units_fit;
      units_within = s.units_within;
      there = subst (λ (ps : List Pair). Every P ps) (sym c.untake.ensures.pairs) (every_insert P (taken_pair c.args.taken) c.self.inside.packing.pairs s.there (record { child = gone.room; parent = gone.range }));
    }
