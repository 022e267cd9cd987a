use Rattle.std.proofs.Common.{◌≡◌, ◌++◌, drop}
use Rattle.std.specs.List.{flat_map}
use Rattle.batch_report.specs.Texts.{number_cell}
use Rattle.batch_report.proofs.columns.push_numbers.Given as goal

abbrev pub invariant-loop-number : goal.invariant-loop-number
invariant-loop-number l = l.initial.out.items ++ flat_map number_cell l.numbers ≡ l.out.items ++ flat_map number_cell (drop l.number-index l.numbers)
