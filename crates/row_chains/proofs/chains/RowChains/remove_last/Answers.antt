use Rattle.std.proofs.Common.{refl, arith, ◌∙◌}
use Rattle.row_chains.proofs.Kept.{chains_pop}
use Rattle.row_chains.proofs.chains.RowChains.remove_last.Goals as goal

pub invariant_of-self : goal.invariant_of-self
invariant_of-self c =
    chains_pop c.self.inside.groups.items c.self.inside.previous.items c.self.inside.next.items c.self.inside.first.items c.self.inside.last.items _ _ _ c.self.inside.room c.take_last-group.result c.take_last-before.result c.take_last-after.result _ _ c.take_last-after.new.self.items _ _ _ _ _ _ _
    c.self.invariant (omega (arith, c.take_last-group.type_inv)) refl c.take_last-group.ensures.items c.take_last-before.ensures.items c.take_last-after.ensures.items c.follow.ensures.next c.follow.ensures.first c.set_link.ensures.items
    c.take_last-group.ensures.capacity c.take_last-before.ensures.capacity (c.follow.ensures.room ∙ c.take_last-after.ensures.capacity)
