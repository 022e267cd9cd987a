use Rattle.gs1_keys.proofs.Forming.{IsText-form}
use Rattle.serial_pool.proofs.Holding.{distinct_join}
use Rattle.serial_pool.proofs.Told.{draws_new}
use Rattle.serial_pool.proofs.Adding.{not_all_new}
use Rattle.serial_pool.proofs.laws.draws_new.Goals as goal

pub returns-clause-new : goal.returns-clause-new
returns-clause-new c = draws_new

pub returns-clause-once : goal.returns-clause-once
returns-clause-once c = λ had form serials once new. distinct_join had serials once new.distinct new.unknown

pub returns-clause-text : goal.returns-clause-text
returns-clause-text c = IsText-form

pub returns-clause-refused : goal.returns-clause-refused
returns-clause-refused c = not_all_new
