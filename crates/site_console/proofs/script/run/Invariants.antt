use Rattle.std.proofs.Common.{◌≡◌, ◌≤◌, ◌+◌, ◌-◌, length}
use Rattle.site_console.specs.Limits.{input_limit}
use Rattle.site_console.specs.Open.{Stands, point_of, told_of}
use Rattle.site_console.proofs.Going.{Going}
use Rattle.site_console.proofs.script.run.Given as goal

abbrev pub invariant-lines : goal.invariant-lines
invariant-lines g l = record {
  going : Going l.fn.store.site.setup (point_of g.D.Disk g.C.Clock g.W.Words l.fn.store) (g.I.Source.left l.fn.input) (g.I.Source.left l.input)
      (told_of g.C.Clock g.W.Words (g.O.Sink.held l.fn.out) l.fn.store.clock l.fn.store.words) (told_of g.C.Clock g.W.Words (g.O.Sink.held l.out) l.store.clock l.store.words)
      l.lines.pending l.lines.taken (point_of g.D.Disk g.C.Clock g.W.Words l.store);
  setup : l.store.site.setup ≡ l.fn.store.site.setup;
  opening : l.store.opening ≡ l.fn.store.opening;
  opened : l.store.opened ≡ l.fn.store.opened;
  stands : Stands g.D.Disk g.C.Clock g.W.Words l.store;
  within : l.lines.taken ≤ input_limit;
  read_faults : g.I.Source.read_faults l.input ≡ g.I.Source.read_faults l.fn.input;
  write_faults : g.O.Sink.write_faults l.out ≡ g.O.Sink.write_faults l.fn.out;
}

abbrev pub decreases-lines : goal.decreases-lines
decreases-lines g l = (input_limit - l.lines.taken) + length l.lines.pending
