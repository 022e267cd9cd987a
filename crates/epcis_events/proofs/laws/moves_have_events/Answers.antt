use Rattle.epcis_events.proofs.Growing.{each_has, batch_has, part, counted}
use Rattle.epcis_events.proofs.laws.moves_have_events.Goals as goal

pub returns-clause-each : goal.returns-clause-each
returns-clause-each c = each_has

pub returns-clause-batch : goal.returns-clause-batch
returns-clause-batch c = batch_has

pub returns-clause-part : goal.returns-clause-part
returns-clause-part c = part

pub returns-clause-count : goal.returns-clause-count
returns-clause-count c = counted
