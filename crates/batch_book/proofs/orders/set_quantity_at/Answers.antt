use Rattle.std.proofs.Common.{sym}
use Rattle.batch_book.specs.Batches.{with_quantity}
use Rattle.batch_book.proofs.Named.{changed_set}
use Rattle.batch_book.proofs.orders.set_quantity_at.Goals as goal

pub returns-clause-batches : goal.returns-clause-batches
returns-clause-batches c = changed_set (with_quantity c.args.quantity) c.args.batches.now.items c.args.at c.index-old.result.now c.requires (sym c.index-old.ensures)
