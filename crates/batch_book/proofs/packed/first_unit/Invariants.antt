use Rattle.batch_book.proofs.Walked.{IsWalked}
use Rattle.batch_book.specs.Closing.{is_shown}
use Rattle.batch_book.proofs.packed.first_unit.Given as goal

abbrev pub invariant-loop-unit : goal.invariant-loop-unit
invariant-loop-unit l = IsWalked l.fn.batch (is_shown l.fn.batch l.fn.fault l.tree.pairs) l.tree.units l.unit-iterator l.first
