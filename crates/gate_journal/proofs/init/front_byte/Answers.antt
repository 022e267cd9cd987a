use Rattle.gate_journal.proofs.Making.{first_byte}
use Rattle.gate_journal.proofs.init.front_byte.Goals as goal

pub returns-in-Ok-clause-read : goal.returns-in-Ok-clause-read
returns-in-Ok-clause-read g c d told = first_byte c.read_at.new.piece d (c.requires d told) (c.in-Ok.ensures.read d told)
