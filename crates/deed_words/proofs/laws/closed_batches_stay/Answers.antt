use Rattle.deed_words.proofs.ClosedKept.{closed_kept}
use Rattle.deed_words.proofs.AfterClose.{closed_for_good}
use Rattle.deed_words.proofs.laws.closed_batches_stay.Goals as goal

pub returns-clause-closed : goal.returns-clause-closed
returns-clause-closed c = closed_kept

pub returns-clause-history : goal.returns-clause-history
returns-clause-history c = closed_for_good
