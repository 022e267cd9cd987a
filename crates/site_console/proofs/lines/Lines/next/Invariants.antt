use Rattle.std.proofs.Common.{◌≡◌, ◌≤◌, ◌-◌}
use Rattle.site_console.specs.Limits.{input_limit}
use Rattle.site_console.proofs.Cutting.{Sofar}
use Rattle.site_console.proofs.lines.Lines.next.Given as goal

abbrev pub invariant-pieces : goal.invariant-pieces
invariant-pieces g l = record {
  sofar : Sofar (g.I.Source.left l.fn.input) (g.I.Source.left l.input) l.fn.self l.self l.line;
  within : l.self.taken ≤ input_limit;
  faults : g.I.Source.read_faults l.input ≡ g.I.Source.read_faults l.fn.input;
}

abbrev pub decreases-pieces : goal.decreases-pieces
decreases-pieces g l = input_limit - l.self.taken
