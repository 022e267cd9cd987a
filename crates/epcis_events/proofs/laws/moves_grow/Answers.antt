use Rattle.epcis_events.proofs.Growing.{grow}
use Rattle.epcis_events.proofs.laws.moves_grow.Goals as goal

pub returns : goal.returns
returns c = grow
