use Rattle.std.proofs.Common.{◌≡◌, ◌∙◌, [], sym, ap, List, ℕ, length, get_or, arith}
use Rattle.row_lists.specs.Lists.{rows_in}
use Rattle.row_lists.proofs.Listing.{rows_at}
use Rattle.row_lists.proofs.Places.{few_rows}
use Rattle.row_lists.proofs.lists.RowLists.count.Goals as goal

pub overflow_cast-result : goal.overflow_cast-result
overflow_cast-result c =
    let lists = c.self.inside.lists.items in
    let group = c.args.group in
    let list = c.index.result.now in
    let rows : get_or (rows_in lists) group [] ≡ list.rows.items = rows_at lists group list (omega (arith, c.if-at-len.true, c.len.ensures)) c.index.ensures in
    let many = ap (λ (rs : List ℕ). length rs) (sym rows ∙ c.self.invariant.lists group) in
    let few = few_rows c.self.inside.groups.items group in
    let small = c.self.invariant.few in
    let is = c.len-then-at-len.ensures in
    omega (arith, is, many, few, small)
