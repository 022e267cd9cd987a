use Rattle.std.proofs.Common.{◌≡◌, ◌≤◌, ◌-◌, length}
use Rattle.serial_pool.specs.Held.{had_of}
use Rattle.serial_pool.proofs.Sofar.{Sofar}
use Rattle.serial_pool.proofs.draw.draw.Given as goal

abbrev pub invariant-loop-found : goal.invariant-loop-found
invariant-loop-found g l = record {
  sofar : Sofar (g.W.Words.words_left l.fn.words) (g.W.Words.words_left l.words) (had_of l.gtin l.drawn) l.form l.count l.serials l.used;
  found : l.found ≡ length l.serials;
  within : l.used ≤ l.limit;
  count : l.found ≤ l.count;
  faults : g.W.Words.word_faults l.words ≡ g.W.Words.word_faults l.fn.words;
}

abbrev pub decreases-loop-found : goal.decreases-loop-found
decreases-loop-found g l = l.limit - l.used
