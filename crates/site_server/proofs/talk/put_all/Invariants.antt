use Rattle.std.proofs.Common.{◌≡◌, length}
use Rattle.site_server.proofs.Putting.{Part}
use Rattle.site_server.proofs.talk.put_all.Given as goal

abbrev pub invariant-answers : goal.invariant-answers
invariant-answers g l = record {
  part : Part (g.L.Sink.held l.fn.link) (g.L.Sink.held l.link) l.fn.said l.left l.last;
  writes : g.L.Sink.write_faults l.link ≡ g.L.Sink.write_faults l.fn.link;
  left : g.L.Source.left l.link ≡ g.L.Source.left l.fn.link;
  reads : g.L.Source.read_faults l.link ≡ g.L.Source.read_faults l.fn.link;
}

abbrev pub decreases-answers : goal.decreases-answers
decreases-answers g l = length l.left
