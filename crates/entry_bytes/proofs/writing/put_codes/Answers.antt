use Rattle.std.proofs.Common.{length}
use Rattle.std.specs.Int.{w16, to_be_bytes}
use Rattle.entry_bytes.specs.Kept.{IsKeptCode}
use Rattle.entry_bytes.specs.Spelling.{code_bytes}
use Rattle.entry_bytes.proofs.Putting.{put_behind}
use Rattle.entry_bytes.proofs.writing.put_codes.Goals as goal

pub loop-item-preserved : goal.loop-item-preserved
loop-item-preserved c = put_behind code_bytes IsKeptCode c.args.out.now.items (to_be_bytes w16 (length c.args.items.now)) c.args.items.now c.loop-item.item-index c.item-item.result c.loop-item.out.items c.put_code.new.out.items c.loop-item-test.true c.item-item.is c.loop-item.invariant c.in_ok-put_code.ensures.bytes c.in_ok-put_code.ensures.kept
