use Rattle.site_store.proofs.Stopping.{runs_keep, numbers_once}
use Rattle.site_store.proofs.laws.stop_law.Goals as goal

pub returns-clause-kept : goal.returns-clause-kept
returns-clause-kept c site old new events lawful runs = (runs_keep site old new events lawful runs).kept

pub returns-clause-extends : goal.returns-clause-extends
returns-clause-extends c site old new events lawful runs = (runs_keep site old new events lawful runs).history

pub returns-clause-lawful : goal.returns-clause-lawful
returns-clause-lawful c site old new events lawful runs = (runs_keep site old new events lawful runs).lawful

pub returns-clause-once : goal.returns-clause-once
returns-clause-once c site history station i entry lawful is = numbers_once site history station i entry lawful is
