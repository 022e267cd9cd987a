use Rattle.std.proofs.Common.{◌≡◌, ℕ, List, get_or, sym, ap, subst, ◌∙◌}
use Rattle.row_chains.specs.Chains.{Grouped, IsAfter}
use Rattle.row_chains.proofs.Kept.{followed}
use Rattle.row_chains.proofs.chains.RowChains.first.Goals as goal

pub returns : goal.returns
returns c =
    let link : c.link_at.result ≡ get_or c.self.inside.first.items c.args.group 0 = c.link_at.ensures ∙ ap (λ (xs : List ℕ). get_or xs c.args.group 0) c.as_slice.ensures.value in
    let x : IsAfter c.self.inside.groups.items 0 c.args.group c.link_at.result = subst (IsAfter c.self.inside.groups.items 0 c.args.group) (sym link) (c.self.invariant.linked.firsts c.args.group) in
    followed c.args.self.now.groups 0 c.args.group c.link_at.result c.row_of.result (subst (λ (v : Grouped). IsAfter v.groups 0 c.args.group c.link_at.result) c.self.view_is x) c.row_of.ensures.none c.row_of.ensures.some
