use Rattle.epcis_events.proofs.Proper.{proper_events, proper_of_batch}
use Rattle.epcis_events.proofs.laws.events_are_proper.Goals as goal

pub returns-clause-all : goal.returns-clause-all
returns-clause-all c = proper_events

pub returns-clause-batch : goal.returns-clause-batch
returns-clause-batch c = proper_of_batch
