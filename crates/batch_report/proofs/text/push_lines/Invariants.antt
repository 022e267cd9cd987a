use Rattle.std.proofs.Common.{◌≡◌, ◌++◌, drop}
use Rattle.std.specs.List.{flat_map}
use Rattle.batch_report.specs.Texts.{line_line}
use Rattle.batch_report.proofs.text.push_lines.Given as goal

abbrev pub invariant-loop-line : goal.invariant-loop-line
invariant-loop-line l = l.initial.out.items ++ flat_map line_line l.lines ≡ l.out.items ++ flat_map line_line (drop l.line-index l.lines)
