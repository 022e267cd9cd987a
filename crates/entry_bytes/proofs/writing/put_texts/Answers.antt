use Rattle.std.proofs.Common.{length}
use Rattle.std.specs.Int.{w16, to_be_bytes}
use Rattle.gs1_keys.specs.Keys.{IsText}
use Rattle.entry_bytes.specs.Spelling.{text_bytes}
use Rattle.entry_bytes.proofs.Putting.{put_behind}
use Rattle.entry_bytes.proofs.writing.put_texts.Goals as goal

pub loop-item-preserved : goal.loop-item-preserved
loop-item-preserved c = put_behind text_bytes IsText c.args.out.now.items (to_be_bytes w16 (length c.args.items.now)) c.args.items.now c.loop-item.item-index c.item-item.result c.loop-item.out.items c.put_text.new.out.items c.loop-item-test.true c.item-item.is c.loop-item.invariant c.in_ok-put_text.ensures.bytes c.in_ok-put_text.ensures.kept
