use Rattle.serial_pool.proofs.Told.{first_drawn, first_used, all_spent, all_used, draws_told}
use Rattle.serial_pool.proofs.laws.takes_the_first.Goals as goal

pub returns-clause-drawn : goal.returns-clause-drawn
returns-clause-drawn c = first_drawn

pub returns-clause-used : goal.returns-clause-used
returns-clause-used c = first_used

pub returns-clause-found : goal.returns-clause-found
returns-clause-found c = all_spent

pub returns-clause-spent : goal.returns-clause-spent
returns-clause-spent c = all_used

pub returns-clause-told : goal.returns-clause-told
returns-clause-told c = draws_told
