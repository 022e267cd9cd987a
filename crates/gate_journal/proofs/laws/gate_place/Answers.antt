use Rattle.gate_journal.proofs.Places.{gate_at}
use Rattle.gate_journal.proofs.laws.gate_place.Goals as goal

pub returns : goal.returns
returns _ = record { place = gate_at }
