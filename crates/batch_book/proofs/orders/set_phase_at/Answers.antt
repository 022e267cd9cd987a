use Rattle.std.proofs.Common.{sym}
use Rattle.batch_book.specs.Batches.{with_phase}
use Rattle.batch_book.proofs.Named.{changed_set}
use Rattle.batch_book.proofs.orders.set_phase_at.Goals as goal

pub returns-clause-batches : goal.returns-clause-batches
returns-clause-batches c = changed_set (with_phase c.args.phase) c.args.batches.now.items c.args.at c.index-old.result.now c.requires (sym c.index-old.ensures)
