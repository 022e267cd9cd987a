use Rattle.std.proofs.Common.{ℕ, ◌≤◌, List, length, sym, subst}
use Rattle.std.specs.List.{AllByRecursion as Every}
use Rattle.pack_tree.specs.declared.link.Pair.{Pair}
use Rattle.pack_tree.specs.Packing.{IsThereIn}
use Rattle.pack_tree.specs.Taking.{taken_pair}
use Rattle.pack_tree.proofs.Standing.{every_without, every_inserted, gone_in}
use Rattle.pack_tree.proofs.tree.Tree.take.Goals as goal

pub invariant_of-self : goal.invariant_of-self
invariant_of-self c =
    let s = c.self.invariant in
    let P = IsThereIn c.self.inside.items (length c.self.inside.units.rows) in
    record {
      items_within = s.items_within;
      items_fit = subst (λ (k : ℕ). c.self.inside.item_room ≤ k) (sym c.take.ensures.rooms.0) s.items_fit;
      units_fit = subst (λ (k : ℕ). c.self.inside.units.room ≤ k) (sym c.take.ensures.rooms.1) s.units_fit;
      units_within = s.units_within;
      there = subst (λ (ps : List Pair). Every P ps) (sym c.take.ensures.pairs) (every_without P c.args.child c.self.inside.packing.pairs s.there);
    }

pub returns-clause-gone : goal.returns-clause-gone
returns-clause-gone c =
    let P = IsThereIn c.self.inside.items (length c.self.inside.units.rows) in
    let own : P (taken_pair c.take.result) = every_inserted P (taken_pair c.take.result) c.take.new.self.pairs (subst (λ (ps : List Pair). Every P ps) c.take.ensures.was c.self.invariant.there) in
    gone_in c.take.new.self c.self.inside.items (length c.self.inside.units.rows) c.take.result c.take.ensures.gone own.child own.parent
