use Rattle.std.proofs.Common.{◌<◌, ◌+◌, sym, subst, length, get_or, arith}
use Rattle.std.specs.Prelude.{slice_index, ◌^◌}
use Rattle.std.proofs.lemmas.List.{length-map}
use Rattle.row_lists.specs.declared.list.RowList.{RowList}
use Rattle.row_lists.specs.Lists.{Listed, rows_in, rooms_in}
use Rattle.row_lists.proofs.Listing.{has_list}
use Rattle.row_lists.proofs.Places.{lists_more}
use Rattle.row_lists.proofs.lists.RowLists.push.Goals as goal

pub invariant_of-self : goal.invariant_of-self
invariant_of-self c =
    let lists = c.self.inside.lists.items in
    let groups = c.self.inside.groups.items in
    let some : 0 < get_or (rooms_in lists) c.args.group 0 = subst (λ (v : Listed). 0 < slice_index v.rooms c.args.group) (sym c.self.view_is) c.requires.rooms in
    let few : length groups + 1 < 2 ^ 32 = subst (λ (v : Listed). length v.groups + 1 < 2 ^ 32) (sym c.self.view_is) c.requires.few in
    let within = has_list lists c.args.group some in
    let long = length-map lists (λ (l : RowList). l.rows.items) in
    let size = c.self.inside.groups.ok in
    let row = c.len-row.ensures in
    lists_more groups c.push_reserved.new.self.items (rows_in lists) (rows_in c.put.new.lists.items) c.args.group _ c.self.invariant few (omega (arith, within, long)) (omega (arith, row, size.0)) c.push_reserved.ensures.items c.put.ensures.rows
