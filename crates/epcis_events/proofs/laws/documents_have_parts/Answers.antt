use Rattle.epcis_events.proofs.Pieces.{in_parts}
use Rattle.epcis_events.proofs.laws.documents_have_parts.Goals as goal

pub returns : goal.returns
returns c = in_parts
