use Rattle.std.proofs.Common.{◌-◌, ◌≤◌, take}
use Rattle.std.specs.Io.KnownBytes.{Keeps, prepend_known}
use Rattle.outside.proofs.random_words.fill.Given as goal

abbrev pub invariant-reads : goal.invariant-reads
invariant-reads g l = record {
  within : l.end ≤ 4096;
  bytes : Keeps (prepend_known (take l.fn.there l.fn.buffer) (g.R.Read.remaining l.fn.reader)) (prepend_known (take l.end l.buffer) (g.R.Read.remaining l.reader));
}

abbrev pub decreases-reads : goal.decreases-reads
decreases-reads g l = 8 - l.end
