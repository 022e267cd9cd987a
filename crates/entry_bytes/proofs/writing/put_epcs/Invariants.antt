use Rattle.std.proofs.Common.{◌≡◌, ◌++◌, length, take}
use Rattle.std.specs.Prelude.{All}
use Rattle.std.specs.Int.{w16, to_be_bytes}
use Rattle.std.specs.List.{flat_map}
use Rattle.entry_bytes.specs.Kept.{IsKeptEpc}
use Rattle.entry_bytes.specs.Spelling.{epc_bytes}
use Rattle.entry_bytes.proofs.writing.put_epcs.Given as goal

abbrev pub invariant-loop-item : goal.invariant-loop-item
invariant-loop-item l = (l.out.items ≡ l.fn.out.items ++ (to_be_bytes w16 (length l.items) ++ flat_map epc_bytes (take l.item-index l.items))) × All IsKeptEpc (take l.item-index l.items)
