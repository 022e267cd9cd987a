use Rattle.std.proofs.Common.{◌≡◌, ◌≤◌, ◌-◌, drop, take}
use Rattle.site_console.specs.Logs.{joined, log_lines}
use Rattle.site_console.proofs.Putting.{Part}
use Rattle.site_console.proofs.logging.put_log.Given as goal

-- the lines from the place on are still to be put
abbrev pub invariant-entries : goal.invariant-entries
invariant-entries g l =
    let lines = log_lines l.site.setup l.site.history in
    record {
      part : Part (g.O.Sink.held l.fn.out) (g.O.Sink.held l.out) (joined (take (l.past - l.first) (drop l.first lines))) (joined (take (l.past - l.place) (drop l.place lines)));
      faults : g.O.Sink.write_faults l.out ≡ g.O.Sink.write_faults l.fn.out;
      low : l.first ≤ l.place;
    }

abbrev pub decreases-entries : goal.decreases-entries
decreases-entries g l = l.past - l.place
