use Rattle.epcis_events.proofs.Numbers.{numbers}
use Rattle.epcis_events.proofs.Whole.{packing, live, once, batch_packing, batch_live, batch_once}
use Rattle.epcis_events.proofs.laws.replay_gives_the_world.Goals as goal

pub returns-clause-packing : goal.returns-clause-packing
returns-clause-packing c = packing

pub returns-clause-live : goal.returns-clause-live
returns-clause-live c = live

pub returns-clause-once : goal.returns-clause-once
returns-clause-once c = once

pub returns-clause-batch_packing : goal.returns-clause-batch_packing
returns-clause-batch_packing c = batch_packing

pub returns-clause-batch_live : goal.returns-clause-batch_live
returns-clause-batch_live c = batch_live

pub returns-clause-batch_once : goal.returns-clause-batch_once
returns-clause-batch_once c = batch_once

pub returns-clause-numbers : goal.returns-clause-numbers
returns-clause-numbers c = numbers
