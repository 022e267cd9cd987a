use Rattle.std.proofs.Common.{◌≡◌, ◌≤◌, ◌-◌, Some, false, drop, take, nat_lt}
use Rattle.epcis_events.specs.Documents.{events_text}
use Rattle.site_console.specs.Looks.{events_seen}
use Rattle.site_console.proofs.Putting.{Part}
use Rattle.site_console.proofs.exporting.put_events.Given as goal

-- the events from the place on are still to be put
abbrev pub invariant-events : goal.invariant-events
invariant-events g l =
    let all = events_seen l.site.setup l.site.history (Some l.batch) in
    record {
      part : Part (g.O.Sink.held l.fn.out) (g.O.Sink.held l.out) (events_text false (take (l.past - l.first) (drop l.first all))) (events_text (nat_lt l.first l.place) (take (l.past - l.place) (drop l.place all)));
      faults : g.O.Sink.write_faults l.out ≡ g.O.Sink.write_faults l.fn.out;
      low : l.first ≤ l.place;
    }

abbrev pub decreases-events : goal.decreases-events
decreases-events g l = l.past - l.place
