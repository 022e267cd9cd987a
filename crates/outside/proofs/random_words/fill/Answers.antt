use Rattle.std.proofs.Common.{◌-◌, take, drop, rules}
use Rattle.std.specs.Io.KnownBytes.{prepend_known}
use Rattle.outside.proofs.Buffers.{read_piece}
use Rattle.outside.proofs.random_words.fill.Goals as goal

pub reads-preserved : goal.reads-preserved
reads-preserved g c = record {
  within = search rules;
  bytes = read_piece (prepend_known (take c.args.there c.args.buffer.now) (g.R.Read.remaining c.args.reader.now)) (g.R.Read.remaining c.reads.reader) (g.R.Read.remaining c.read.new.self) c.reads.buffer c.read.new.buf
      (drop (4096 - c.reads.end) (drop c.reads.end c.reads.buffer)) c.reads.end c.in-Ok.count (search rules) c.in-Ok.ensures.bound.1 c.reads.invariant.bytes c.in-Ok.ensures.bytes.0;
}
