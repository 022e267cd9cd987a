use Rattle.std.proofs.Common.{◌≡◌, min, ℕ, ◌+◌, ◌-◌, ◌<◌, ◌≤◌, [], List, length, None, sym, ap, subst, ◌∙◌, arith}
use Rattle.std.specs.List.{AllByRecursion as Every}
use Rattle.pack_tree.specs.declared.node.Node.TheVariants.{Unit as AUnit}
use Rattle.pack_tree.specs.declared.node.UnitRow.{UnitRow}
use Rattle.pack_tree.specs.Packing.{IsThereIn}
use Rattle.pack_tree.specs.Pairs.{parent_in, inside}
use Rattle.pack_tree.specs.Trees.{Forest}
use Rattle.pack_tree.proofs.Standing.{less_units}
use Rattle.std.proofs.lemmas.List.{length-take}
use Rattle.pack_tree.proofs.tree.Tree.remove_last_unit.Goals as goal

least : (n : ℕ) → min (n - 1) n ≡ n - 1
least n = omega arith

pub invariant_of-self : goal.invariant_of-self
invariant_of-self c =
    let s = c.self.invariant in
    let rows = c.self.inside.units.rows in
    let some : 0 < length rows = subst (λ (v : Forest). 0 < length v.units) (sym c.self.view_is) c.requires.there in
    let n : length c.remove_last.new.self.rows ≡ length rows - 1 = ap (λ (xs : List UnitRow). length xs) c.remove_last.ensures.rows ∙ length-take (length rows - 1) rows ∙ least (length rows) in
    let one : length rows ≡ length rows - 1 + 1 = omega (arith, some) in
    record {
      items_within = s.items_within;
      items_fit = s.items_fit;
      units_fit = subst (λ (k : ℕ). k ≤ c.self.inside.packing.units) (sym c.remove_last.ensures.room) s.units_fit;
      units_within = omega (arith, n, c.remove_last.ensures.room, s.units_within);
      there = subst (λ (k : ℕ). Every (IsThereIn c.self.inside.items k) c.self.inside.packing.pairs) (sym n)
          (less_units c.self.inside.items (length rows - 1) c.self.inside.packing.pairs
          (subst (λ (v : Forest). parent_in v.pairs (AUnit (length v.units - 1)) ≡ None) (sym c.self.view_is) c.requires.alone)
          (subst (λ (v : Forest). inside (length v.units - 1) v.pairs ≡ []) (sym c.self.view_is) c.requires.empty)
          (subst (λ (k : ℕ). Every (IsThereIn c.self.inside.items k) c.self.inside.packing.pairs) one s.there));
    }
