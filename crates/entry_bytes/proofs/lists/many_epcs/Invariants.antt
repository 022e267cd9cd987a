use Rattle.std.proofs.Common.{◌≡◌, ◌-◌}
use Rattle.entry_bytes.specs.Reading.{many}
use Rattle.entry_bytes.specs.Fields.{epc_at}
use Rattle.entry_bytes.proofs.Loop.{with_front}
use Rattle.entry_bytes.proofs.lists.many_epcs.Given as goal

abbrev pub invariant-loop : goal.invariant-loop
invariant-loop l = with_front l.all (many epc_at (l.count - l.counter) l.bytes) ≡ many epc_at l.count l.fn.bytes
