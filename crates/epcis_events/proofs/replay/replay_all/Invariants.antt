use Rattle.std.proofs.Common.{◌≡◌, drop}
use Rattle.epcis_events.specs.Replaying.{replay, replay_from}
use Rattle.epcis_events.proofs.replay.replay_all.Given as goal

abbrev pub invariant-loop-event : goal.invariant-loop-event
invariant-loop-event l = replay_from l.replay (drop l.event-index l.events) ≡ replay l.events
