use Rattle.std.proofs.Common.{ℕ, ◌≤◌, List, length, sym, subst}
use Rattle.std.specs.List.{AllByRecursion as Every}
use Rattle.pack_tree.specs.declared.link.Pair.{Pair}
use Rattle.pack_tree.specs.Packing.{IsThereIn}
use Rattle.pack_tree.proofs.Standing.{every_front}
use Rattle.pack_tree.proofs.tree.Tree.unput.Goals as goal

pub invariant_of-self : goal.invariant_of-self
invariant_of-self c =
    let s = c.self.invariant in
    let P = IsThereIn c.self.inside.items (length c.self.inside.units.rows) in
    record {
      items_within = s.items_within;
      items_fit = subst (λ (k : ℕ). c.self.inside.item_room ≤ k) (sym c.unput.ensures.rooms.0) s.items_fit;
      units_fit = subst (λ (k : ℕ). c.self.inside.units.room ≤ k) (sym c.unput.ensures.rooms.1) s.units_fit;
      units_within = s.units_within;
      there = subst (λ (ps : List Pair). Every P ps) (sym c.unput.ensures.pairs) (every_front P c.self.inside.packing.pairs s.there);
    }
