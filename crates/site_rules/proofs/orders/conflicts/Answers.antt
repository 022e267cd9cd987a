use Rattle.std.proofs.Common.{Some, sym, ap, ◌∙◌, not}
use Rattle.site_rules.proofs.FirstOrdered.{there_within, row_within, conflicts_there, conflicts_row}
use Rattle.site_rules.proofs.orders.conflicts.Goals as goal

pub batch_at-batch-requires : goal.batch_at-batch-requires
batch_at-batch-requires c = there_within c.args.stores.now.content c.args.rows.now c.args.row.now.batch _ (ap Some (sym c.in-There.is) ∙ c.requires.origin)

pub order_at-requires : goal.order_at-requires
order_at-requires c = row_within c.args.stores.now.content c.args.rows.now c.args.row.now.batch c.in-Row.first (ap Some (sym c.in-Row.is) ∙ c.requires.origin)

pub returns-in-There : goal.returns-in-There
returns-in-There c = ap not c.same_order.ensures ∙ sym (conflicts_there c.args.stores.now.content c.args.rows.now c.args.row.now c.in-There.at c.batch_at-batch.result (ap Some (sym c.in-There.is) ∙ c.requires.origin) c.batch_at-batch.ensures)

pub returns-in-Row : goal.returns-in-Row
returns-in-Row c = ap not c.same_order-in-Row.ensures ∙ sym (conflicts_row c.args.stores.now.content c.args.rows.now c.args.row.now c.order_at.result.now c.in-Row.first (ap Some (sym c.in-Row.is) ∙ c.requires.origin) c.order_at.ensures)
