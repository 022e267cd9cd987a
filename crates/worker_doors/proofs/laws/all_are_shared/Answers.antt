use Rattle.worker_doors.proofs.Sharing.{all_are_shared, shares_are_even}
use Rattle.worker_doors.proofs.laws.all_are_shared.Goals as goal

pub returns-clause-shared : goal.returns-clause-shared
returns-clause-shared c = all_are_shared

pub returns-clause-even : goal.returns-clause-even
returns-clause-even c = shares_are_even
