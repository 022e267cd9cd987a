use Rattle.std.proofs.Common.{◌≡◌, ℕ, ◌<◌, None}
use Rattle.batch_book.specs.Closing.{differing}
use Rattle.batch_book.proofs.lines.first_differing.Given as goal

abbrev pub invariant-loop-line : goal.invariant-loop-line
invariant-loop-line l = (k : ℕ) → k < l.line → differing l.batch l.items.rows l.book.declarations k ≡ None
