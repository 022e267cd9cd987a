use Rattle.std.proofs.Common.{◌≡◌, ◌-◌}
use Rattle.entry_bytes.specs.Reading.{many}
use Rattle.entry_bytes.specs.Fields.{code_at}
use Rattle.entry_bytes.proofs.Loop.{with_front}
use Rattle.entry_bytes.proofs.lists.many_codes.Given as goal

abbrev pub invariant-loop : goal.invariant-loop
invariant-loop l = with_front l.all (many code_at (l.count - l.counter) l.bytes) ≡ many code_at l.count l.fn.bytes
