use Rattle.std.proofs.Common.{◌≡◌, ℕ, ◌+◌, ◌<◌, List, get_or, length, sym, ap, subst, ◌∙◌}
use Rattle.row_chains.specs.Chains.{Grouped, IsAfter}
use Rattle.row_chains.proofs.Kept.{followed}
use Rattle.row_chains.proofs.chains.RowChains.next.Goals as goal

pub returns : goal.returns
returns c =
    let row = c.args.row in
    let gs = c.self.inside.groups.items in
    let link : c.link_at.result ≡ get_or c.self.inside.next.items row 0 = c.link_at.ensures ∙ ap (λ (xs : List ℕ). get_or xs row 0) c.as_slice.ensures.value in
    let x : IsAfter gs (row + 1) (get_or gs row 0) c.link_at.result = subst (IsAfter gs (row + 1) (get_or gs row 0)) (sym link) (c.self.invariant.linked.nexts row (subst (λ (v : Grouped). row < length v.groups) (sym c.self.view_is) c.requires)) in
    followed c.args.self.now.groups (row + 1) _ c.link_at.result c.row_of.result (subst (λ (v : Grouped). IsAfter v.groups (row + 1) (get_or v.groups row 0) c.link_at.result) c.self.view_is x) c.row_of.ensures.none c.row_of.ensures.some
