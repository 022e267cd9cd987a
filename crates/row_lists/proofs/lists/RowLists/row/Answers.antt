use Rattle.std.proofs.Common.{◌≡◌, ◌∙◌, [], sym, ap, List, ℕ, length, get_or, arith}
use Rattle.row_lists.specs.Lists.{Listed, rows_in, rows_of}
use Rattle.row_lists.proofs.Listing.{has_rows, rows_at}
use Rattle.row_lists.proofs.Places.{row_within}
use Rattle.row_lists.proofs.lists.RowLists.row.Goals as goal

pub returns-clause-within : goal.returns-clause-within
returns-clause-within c =
    let lists = c.self.inside.lists.items in
    let group = c.args.group in
    let list = c.index.result.now in
    let own : get_or (rows_in lists) group [] ≡ rows_of c.args.self.now.groups group = c.self.invariant.lists group ∙ ap (λ (v : Listed). rows_of v.groups group) c.self.view_is in
    let many = ap (λ (rs : List ℕ). length rs) own in
    let there = has_rows lists group (omega (arith, many, c.requires)) in
    let rows : get_or (rows_in lists) group [] ≡ list.rows.items = rows_at lists group list there c.index.ensures in
    let is : c.at.result ≡ get_or (rows_of c.args.self.now.groups group) c.args.place 0 = c.at.ensures ∙ ap (λ (rs : List ℕ). get_or rs c.args.place 0) (sym rows ∙ own) in
    let within = row_within c.args.self.now.groups group c.args.place c.requires in
    omega (arith, is, within)
