use Rattle.std.proofs.Common.{◌≡◌, ◌++◌, length, take}
use Rattle.std.specs.Prelude.{All}
use Rattle.std.specs.Int.{w16, to_be_bytes}
use Rattle.std.specs.List.{flat_map}
use Rattle.gs1_keys.specs.Keys.{IsText}
use Rattle.entry_bytes.specs.Spelling.{text_bytes}
use Rattle.entry_bytes.proofs.writing.put_texts.Given as goal

abbrev pub invariant-loop-item : goal.invariant-loop-item
invariant-loop-item l = (l.out.items ≡ l.fn.out.items ++ (to_be_bytes w16 (length l.items) ++ flat_map text_bytes (take l.item-index l.items))) × All IsText (take l.item-index l.items)
