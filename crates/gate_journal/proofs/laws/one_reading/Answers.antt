use Rattle.gate_journal.proofs.Readings.{holds_once, holds_not_bad, holds_not_none, bad_once, bad_not_none, there_not_none}
use Rattle.gate_journal.proofs.Everything.{every_reading}
use Rattle.gate_journal.proofs.laws.one_reading.Goals as goal

pub returns-clause-holds : goal.returns-clause-holds
returns-clause-holds _ = holds_once

pub returns-clause-bad : goal.returns-clause-bad
returns-clause-bad _ = bad_once

pub returns-clause-holds_not_none : goal.returns-clause-holds_not_none
returns-clause-holds_not_none _ = holds_not_none

pub returns-clause-holds_not_bad : goal.returns-clause-holds_not_bad
returns-clause-holds_not_bad _ = holds_not_bad

pub returns-clause-bad_not_none : goal.returns-clause-bad_not_none
returns-clause-bad_not_none _ = bad_not_none

pub returns-clause-there_not_none : goal.returns-clause-there_not_none
returns-clause-there_not_none _ = there_not_none

pub returns-clause-one_of_three : goal.returns-clause-one_of_three
returns-clause-one_of_three _ = every_reading
