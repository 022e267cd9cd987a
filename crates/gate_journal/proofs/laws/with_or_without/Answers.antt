use Rattle.gate_journal.specs.Grammar.{block, front}
use Rattle.gate_journal.proofs.Crash.{either}
use Rattle.gate_journal.proofs.Settled.{with_or_without}
use Rattle.gate_journal.proofs.laws.with_or_without.Goals as goal

pub returns : goal.returns
returns _ = record { either = λ site payload c ps fits all one half. with_or_without site ps payload c fits all one (either (front site ps) (block payload) c half) }
