use Rattle.std.proofs.Common.{◌≡◌, drop}
use Rattle.std.specs.Prelude.{filter_map}
use Rattle.epcis_events.specs.Events.{event_of}
use Rattle.epcis_events.specs.Replaying.{replay_from}
use Rattle.site_sim.proofs.replaying.feed_all.Given as goal

abbrev pub invariant-loop-moved : goal.invariant-loop-moved
invariant-loop-moved l = replay_from l.replay (filter_map (event_of l.setup) (drop l.moved-index l.moves)) ≡ replay_from l.fn.replay (filter_map (event_of l.setup) l.moves)
