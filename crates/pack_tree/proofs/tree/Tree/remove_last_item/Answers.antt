use Rattle.std.proofs.Common.{◌≡◌, ℕ, ◌+◌, ◌-◌, ◌<◌, length, None, sym, subst, arith}
use Rattle.std.specs.List.{AllByRecursion as Every}
use Rattle.pack_tree.specs.declared.node.Node.TheVariants.{Item as AnItem}
use Rattle.pack_tree.specs.Packing.{IsThereIn}
use Rattle.pack_tree.specs.Pairs.{parent_in}
use Rattle.pack_tree.specs.Trees.{Forest}
use Rattle.pack_tree.proofs.Standing.{less_items}
use Rattle.pack_tree.proofs.tree.Tree.remove_last_item.Goals as goal

pub invariant_of-self : goal.invariant_of-self
invariant_of-self c =
    let s = c.self.invariant in
    let some : 0 < c.self.inside.items = subst (λ (v : Forest). 0 < v.items) (sym c.self.view_is) c.requires.there in
    let one : c.self.inside.items ≡ c.self.inside.items - 1 + 1 = omega (arith, some) in
    record {
      items_within = omega (arith, s.items_within);
      items_fit = s.items_fit;
      units_fit = s.units_fit;
      units_within = s.units_within;
      there = less_items (c.self.inside.items - 1) (length c.self.inside.units.rows) c.self.inside.packing.pairs
          (subst (λ (v : Forest). parent_in v.pairs (AnItem (v.items - 1)) ≡ None) (sym c.self.view_is) c.requires.alone)
          (subst (λ (n : ℕ). Every (IsThereIn n (length c.self.inside.units.rows)) c.self.inside.packing.pairs) one s.there);
    }
