use Rattle.std.proofs.Common.{◌≡◌, ◌≤◌, ◌-◌, length, drop}
use Rattle.epcis_events.specs.Events.{events}
use Rattle.epcis_events.specs.Replaying.{replay, replay_from}
use Rattle.site_console.proofs.checking.replay_site.Given as goal

-- what is left of the events is still to be replayed
abbrev pub invariant-events : goal.invariant-events
invariant-events l = record {
  replayed : replay_from l.replay (drop l.place (events l.site.setup l.site.history)) ≡ replay (events l.site.setup l.site.history);
  within : l.place ≤ length (events l.site.setup l.site.history);
}

abbrev pub decreases-events : goal.decreases-events
decreases-events l = l.entries - l.place
