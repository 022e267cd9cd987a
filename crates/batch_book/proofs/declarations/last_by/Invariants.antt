use Rattle.std.proofs.Common.{◌≡◌, ◌-◌, ◌<◌, length, take, get_or}
use Rattle.std.specs.Prelude.{find, reverse}
use Rattle.batch_book.specs.Said.{batches, is_by}
use Rattle.batch_book.proofs.declarations.last_by.Given as goal

abbrev pub invariant-loop-at : goal.invariant-loop-at
invariant-loop-at l = record {
  own : l.at < length l.rows → get_or (batches l.rows) l.at 0 ≡ l.batch;
  told : l.last ≡ find (is_by l.batch l.line) (reverse (take l.at l.rows));
}

abbrev pub decreases-loop-at : goal.decreases-loop-at
decreases-loop-at l = length l.rows - l.at
