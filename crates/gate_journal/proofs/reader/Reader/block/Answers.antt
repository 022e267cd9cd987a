use Rattle.std.proofs.Common.{◌≡◌, ◌<◌, ◌^◌, length, length-drop, drop, ◌∙◌, ap, arith}
use Rattle.gate_journal.proofs.Pieces.{no_room, cut_short, block_there}
use Rattle.gate_journal.proofs.reader.Reader.block.Goals as goal

pub returns-then-self-at-lt4-clause-none : goal.returns-then-self-at-lt4-clause-none
returns-then-self-at-lt4-clause-none g c _ d told =
    let size = c.args.self.now.sized d told in
    no_room (drop c.args.at d) (omega (arith, size, length-drop c.args.at d))

pub returns-then-self-at-clause-none : goal.returns-then-self-at-clause-none
returns-then-self-at-clause-none g c _ d told =
    let size = c.args.self.now.sized d told in
    cut_short c.in-Ok.count (drop c.args.at d) c.in-Ok.ensures.bound (c.in-Ok.ensures.read d told) (omega (arith, size, c.in-Ok.ensures.size, length-drop c.args.at d))

pub returns-in-Ok-bytes-clause-some : goal.returns-in-Ok-bytes-clause-some
returns-in-Ok-bytes-clause-some g c =
    let same : c.from.result ≡ c.in-Ok-bytes.bytes.items = c.from.ensures in
    let long : length c.from.result ≡ c.in-Ok.count = ap length same ∙ c.in-Ok-bytes.ensures.length in
    let bound : c.in-Ok.count < 2 ^ 32 = c.in-Ok.ensures.bound in (
      omega (arith, long, bound),
      omega (arith, long, c.in-Ok.ensures.size),
      λ d told. block_there c.in-Ok.count c.args.at d c.from.result long (c.in-Ok.ensures.read d told) (same ∙ c.in-Ok-bytes.ensures.read d (c.in-Ok.ensures.untouched.content_same ∙ told)),
    )
