use Rattle.std.proofs.Common.{◌≡◌, ℕ, ◌<◌, None}
use Rattle.batch_book.specs.Closing.{silent}
use Rattle.batch_book.proofs.lines.first_silent.Given as goal

abbrev pub invariant-loop-line : goal.invariant-loop-line
invariant-loop-line l = (k : ℕ) → k < l.line → silent l.batch l.items.rows l.book.declarations k ≡ None
