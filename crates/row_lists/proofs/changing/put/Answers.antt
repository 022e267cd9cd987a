use Rattle.row_lists.proofs.Listing.{has_list, rows_put, room_put}
use Rattle.row_lists.proofs.changing.put.Goals as goal

pub returns-clause-rows : goal.returns-clause-rows
returns-clause-rows c = rows_put c.args.lists.now.items c.args.group c.args.row c.index_mut-list.result.now c.push.new.self (has_list c.args.lists.now.items c.args.group c.requires) c.index_mut-list.ensures.value c.push.ensures.rows

pub returns-clause-rooms : goal.returns-clause-rooms
returns-clause-rooms c = room_put c.args.lists.now.items c.args.group c.index_mut-list.result.now c.push.new.self (has_list c.args.lists.now.items c.args.group c.requires) c.index_mut-list.ensures.value c.push.ensures.room
