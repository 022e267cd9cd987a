use Rattle.std.proofs.Common.{sym}
use Rattle.item_store.proofs.Walks.{first_there, first_nowhere}
use Rattle.item_store.proofs.walk.first_in.Goals as goal

pub returns-then-at-rows : goal.returns-then-at-rows
returns-then-at-rows c =
    sym (first_there c.args.rows.now c.args.batch c.args.state c.begin-first.result c.first_from-at.result c.begin-first.ensures c.first_from-at.ensures.others c.if-at-rows.true (c.first_from-at.ensures.found c.if-at-rows.true))

pub returns-else-at-rows : goal.returns-else-at-rows
returns-else-at-rows c = sym (first_nowhere c.args.rows.now c.args.batch c.args.state c.begin-first.result c.first_from-at.result c.begin-first.ensures c.first_from-at.ensures.others c.if-at-rows.false)
