use Rattle.std.proofs.Common.{◌≡◌, ℕ, ◌-◌, ◌+◌, List, get_or, ap, ◌∙◌, arith}
use Rattle.row_chains.specs.Chains.{Grouped}
use Rattle.row_chains.proofs.Kept.{chains_push}
use Rattle.row_chains.proofs.chains.RowChains.push.Goals as goal

pub invariant_of-self : goal.invariant_of-self
invariant_of-self c =
    let some : c.self.inside.room - 1 + 1 ≡ c.self.inside.room = omega (arith, ap (λ (v : Grouped). v.room) c.self.view_is, c.requires) in
    let before : c.link_at-before.result ≡ get_or c.self.inside.last.items c.args.group 0 = c.link_at-before.ensures ∙ ap (λ (xs : List ℕ). get_or xs c.args.group 0) c.as_slice.ensures.value in
    chains_push c.self.inside.groups.items c.self.inside.previous.items c.self.inside.next.items c.self.inside.first.items c.self.inside.last.items _ _ _ c.self.inside.room c.args.group _ c.link_at-before.result _ _ c.follow.new.next.items _ _ _ _ _ _ _
    c.self.invariant (omega (arith, c.ranges.group.fits)) some (omega (arith, c.len.ensures, c.self.inside.groups.ok.0)) before c.push_reserved.ensures.items c.push_reserved-2.ensures.items c.follow.ensures.next c.push_reserved-3.ensures.items c.follow.ensures.first c.set_link.ensures.items
    c.push_reserved.ensures.capacity c.push_reserved-2.ensures.capacity (c.push_reserved-3.ensures.capacity ∙ c.follow.ensures.room)
