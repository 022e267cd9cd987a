use Rattle.std.proofs.Common.{◌≡◌, length}
use Rattle.site_console.proofs.Putting.{Part}
use Rattle.site_console.proofs.put.put_all.Given as goal

abbrev pub invariant-parts : goal.invariant-parts
invariant-parts g l = record {
  part : Part (g.O.Sink.held l.fn.out) (g.O.Sink.held l.out) l.text l.rest;
  faults : g.O.Sink.write_faults l.out ≡ g.O.Sink.write_faults l.fn.out;
}

abbrev pub decreases-parts : goal.decreases-parts
decreases-parts g l = length l.rest
