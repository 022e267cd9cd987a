use Rattle.gate_journal.proofs.Places.{readings}
use Rattle.gate_journal.proofs.laws.two_readings.Goals as goal

pub returns : goal.returns
returns _ = record { readings = readings }
