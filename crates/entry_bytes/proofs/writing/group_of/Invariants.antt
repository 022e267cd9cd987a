use Rattle.std.proofs.Common.{◌≡◌, ◌+◌, ◌∷◌, length, take}
use Rattle.std.specs.Prelude.{All}
use Rattle.std.specs.List.{flat_map}
use Rattle.entry_bytes.specs.Spelling.{entry_bytes}
use Rattle.entry_bytes.specs.Kept.{IsKept}
use Rattle.entry_bytes.proofs.writing.group_of.Given as goal

abbrev pub invariant-loop-entry : goal.invariant-loop-entry
invariant-loop-entry l = (l.out.items ≡ (128 + length l.entries) ∷ flat_map entry_bytes (take l.entry-index l.entries)) × All IsKept (take l.entry-index l.entries)
