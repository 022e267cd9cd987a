use Rattle.std.proofs.Common.{◌+◌, [], ◌∷◌, length}
use Rattle.entry_bytes.specs.Spelling.{entry_bytes}
use Rattle.entry_bytes.specs.Kept.{IsKept}
use Rattle.entry_bytes.proofs.Putting.{put_on}
use Rattle.entry_bytes.proofs.writing.group_of.Goals as goal

pub loop-entry-preserved : goal.loop-entry-preserved
loop-entry-preserved c = put_on entry_bytes IsKept ((128 + length c.args.entries.now) ∷ []) c.args.entries.now c.loop-entry.entry-index c.entry-item.result c.loop-entry.out.items c.put_entry.new.out.items c.loop-entry-test.true c.entry-item.is c.loop-entry.invariant c.in_ok-put_entry.ensures.bytes c.in_ok-put_entry.ensures.kept
