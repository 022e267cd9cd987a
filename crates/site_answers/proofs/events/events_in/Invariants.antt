use Rattle.std.proofs.Common.{◌≡◌, take}
use Rattle.std.specs.List.{filter_map}
use Rattle.epcis_events.specs.Events.{event_of}
use Rattle.site_answers.proofs.events.events_in.Given as goal

abbrev pub invariant-loop-moved : goal.invariant-loop-moved
invariant-loop-moved l = l.events.items ≡ filter_map (event_of l.setup) (take l.moved-index l.moves)
