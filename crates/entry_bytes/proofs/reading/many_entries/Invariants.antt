use Rattle.std.proofs.Common.{◌≡◌, ◌-◌}
use Rattle.entry_bytes.specs.Reading.{many}
use Rattle.entry_bytes.specs.Deeds.{entry_at}
use Rattle.entry_bytes.proofs.Loop.{with_front}
use Rattle.entry_bytes.proofs.reading.many_entries.Given as goal

abbrev pub invariant-loop : goal.invariant-loop
invariant-loop l = with_front l.all.items (many (entry_at l.version) (l.count - l.counter) l.bytes) ≡ many (entry_at l.version) l.count l.fn.bytes
