use Rattle.row_lists.proofs.Listing.{has_rows, rows_unput, room_unput}
use Rattle.row_lists.proofs.changing.unput.Goals as goal

pub returns-clause-rows : goal.returns-clause-rows
returns-clause-rows c = rows_unput c.args.lists.now.items c.args.group c.unpush.result c.index_mut-list.result.now c.unpush.new.self (has_rows c.args.lists.now.items c.args.group c.requires) c.index_mut-list.ensures.value c.unpush.ensures.rows

pub returns-clause-rooms : goal.returns-clause-rooms
returns-clause-rooms c = room_unput c.args.lists.now.items c.args.group c.index_mut-list.result.now c.unpush.new.self (has_rows c.args.lists.now.items c.args.group c.requires) c.index_mut-list.ensures.value c.unpush.ensures.room
