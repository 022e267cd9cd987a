use Rattle.std.proofs.Common.{◌∙◌, ap, List, ℕ, length, arith}
use Rattle.std.proofs.lemmas.List.{length-map, length-set}
use Rattle.row_lists.specs.declared.list.RowList.{RowList}
use Rattle.row_lists.specs.Lists.{Listed, rows_in}
use Rattle.row_lists.proofs.Listing.{has_rows}
use Rattle.row_lists.proofs.Places.{some_there, lists_fewer}
use Rattle.row_lists.proofs.lists.RowLists.remove_last.Goals as goal

pub unput-row-requires : goal.unput-row-requires
unput-row-requires c = some_there c.self.inside.groups.items c.take_last-group.new.self.items (rows_in c.self.inside.lists.items) c.take_last-group.result c.self.invariant c.take_last-group.ensures.items

pub invariant_of-self : goal.invariant_of-self
invariant_of-self c =
    let lists = c.self.inside.lists.items in
    let some = some_there c.self.inside.groups.items c.take_last-group.new.self.items (rows_in lists) c.take_last-group.result c.self.invariant c.take_last-group.ensures.items in
    let within = has_rows lists c.take_last-group.result some in
    let long = length-map lists (λ (l : RowList). l.rows.items) in
    let same = ap (λ (ls : List (List ℕ)). length ls) c.unput-row.ensures.rows ∙ length-set (rows_in c.unput-row.new.lists.items) c.take_last-group.result _ in
    lists_fewer c.self.inside.groups.items c.take_last-group.new.self.items (rows_in lists) (rows_in c.unput-row.new.lists.items) c.take_last-group.result c.unput-row.result c.self.invariant c.take_last-group.ensures.items
    (omega (arith, within, long, same)) c.unput-row.ensures.rows

pub returns-clause-within : goal.returns-clause-within
returns-clause-within c =
    let lists = c.self.inside.lists.items in
    let some = some_there c.self.inside.groups.items c.take_last-group.new.self.items (rows_in lists) c.take_last-group.result c.self.invariant c.take_last-group.ensures.items in
    let within = has_rows lists c.take_last-group.result some in
    let long = length-map lists (λ (l : RowList). l.room) in
    let same = ap (λ (v : Listed). length v.rooms) c.self.view_is in
    omega (arith, within, long, same)
