use Rattle.std.proofs.Common.{ℕ, length, subst}
use Rattle.std.specs.List.{All}
use Rattle.pack_tree.specs.Packing.{IsThereIn}
use Rattle.site_stores.specs.Holding.{Held, IsWhole}
use Rattle.site_stores.proofs.stores.Stores.tell_whole.Goals as goal

pub returns : goal.returns
returns c = subst (λ (h : Held). IsWhole h.content) c.self.view_is (record {
  batches_apart = c.tell_named.ensures.apart;
  batches_named = c.tell_named.ensures.named;
  rows_apart = c.tell_apart.ensures;
  units_apart = c.tell_apart-2.ensures;
  rows = c.self.invariant.rows;
  units = c.self.invariant.units;
  said = c.tell_there.ensures;
  once = c.tell_once.ensures;
  there = subst (λ (n : ℕ). All (IsThereIn n (length c.self.inside.tree.units)) c.self.inside.tree.pairs) c.self.invariant.counted c.tell_there-2.ensures;
})
