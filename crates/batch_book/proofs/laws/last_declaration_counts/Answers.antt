use Rattle.batch_book.proofs.Hearing.{own_last, other_last}
use Rattle.batch_book.proofs.laws.last_declaration_counts.Goals as goal

pub returns-clause-own : goal.returns-clause-own
returns-clause-own c = own_last

pub returns-clause-other : goal.returns-clause-other
returns-clause-other c = other_last
