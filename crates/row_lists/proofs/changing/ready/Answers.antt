use Rattle.std.proofs.lemmas.Result.{on_ok_weaker}
use Rattle.row_lists.proofs.Listing.{rows_kept, room_made, room_kept}
use Rattle.row_lists.proofs.changing.ready.Goals as goal

pub returns-clause-rows : goal.returns-clause-rows
returns-clause-rows c = rows_kept c.args.lists.now.items c.args.group c.index_mut-list.result.now c.ready.new.self c.requires c.index_mut-list.ensures.value c.ready.ensures.rows

pub returns-clause-ok : goal.returns-clause-ok
returns-clause-ok c = on_ok_weaker c.ready.result (λ some. room_made c.args.lists.now.items c.args.group c.ready.new.self c.requires some) c.ready.ensures.ok

pub returns-clause-rooms : goal.returns-clause-rooms
returns-clause-rooms c = room_kept c.args.lists.now.items c.args.group c.index_mut-list.result.now c.ready.new.self c.requires c.index_mut-list.ensures.value c.ready.ensures.room
