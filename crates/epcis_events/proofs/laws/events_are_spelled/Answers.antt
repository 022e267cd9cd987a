use Rattle.epcis_events.proofs.Spelled.{made, ilmd}
use Rattle.epcis_events.proofs.laws.events_are_spelled.Goals as goal

pub returns-clause-made : goal.returns-clause-made
returns-clause-made c = made

pub returns-clause-ilmd : goal.returns-clause-ilmd
returns-clause-ilmd c = ilmd
