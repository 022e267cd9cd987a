use Rattle.std.proofs.Common.{◌≡◌, ℕ, ◌≤◌, List, length, sym, ap, subst, ◌∙◌, arith}
use Rattle.std.specs.List.{AllByRecursion as Every}
use Rattle.pack_tree.specs.declared.node.UnitRow.{UnitRow}
use Rattle.pack_tree.specs.Packing.{IsThereIn}
use Rattle.pack_tree.proofs.Shelves.{length_marked}
use Rattle.pack_tree.proofs.tree.Tree.set_mark.Goals as goal

pub invariant_of-self : goal.invariant_of-self
invariant_of-self c =
    let s = c.self.invariant in
    let n : length c.set_mark.new.self.rows ≡ length c.self.inside.units.rows = ap (λ (xs : List UnitRow). length xs) c.set_mark.ensures.rows ∙ length_marked _ _ _ in
    record {
      items_within = s.items_within;
      items_fit = s.items_fit;
      units_fit = subst (λ (k : ℕ). k ≤ c.self.inside.packing.units) (sym c.set_mark.ensures.room) s.units_fit;
      units_within = omega (arith, n, c.set_mark.ensures.room, s.units_within);
      there = subst (λ (k : ℕ). Every (IsThereIn c.self.inside.items k) c.self.inside.packing.pairs) (sym n) s.there;
    }
