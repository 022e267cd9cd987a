use Rattle.std.proofs.Common.{◌≡◌, length, ◌∙◌, arith}
use Rattle.gate_journal.proofs.Pieces.{more_read}
use Rattle.gate_journal.proofs.Touch.{and_untouched}
use Rattle.gate_journal.proofs.reader.Reader.bytes.Goals as goal

pub loop-bytes-preserved : goal.loop-bytes-preserved
loop-bytes-preserved g c =
    let so_far = c.loop-bytes.invariant in
    let more = c.in_default-more.ensures in
    let done : c.len-done.result ≡ length c.loop-bytes.bytes.items = omega (arith, c.len-done.ensures, c.loop-bytes.bytes.ok) in
    record {
      within = omega (arith, more.length, so_far.within, c.min-piece.ensures, done);
      read = λ d told. more_read d c.loop-bytes.bytes.items c.more.new.bytes.items c.args.at c.len-done.result c.min-piece.result done (so_far.read d told) (more.read d (so_far.untouched.content_same ∙ told)) more.length;
      size = more.size ∙ so_far.size;
      untouched = and_untouched g.D.Disk.content g.D.Disk.image g.D.Disk.moment g.D.Disk.image_since c.args.self.now.disk c.loop-bytes.self.disk c.more.new.self.disk so_far.untouched more.untouched;
      faults = more.cause.kept ∙ so_far.faults;
    }
