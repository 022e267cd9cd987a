use Rattle.std.proofs.Common.{◌≡◌, ◌++◌, drop}
use Rattle.epcis_events.specs.Replaying.{names_of}
use Rattle.epcis_events.proofs.replay.names_of.Given as goal

abbrev pub invariant-loop-one : goal.invariant-loop-one
invariant-loop-one l = l.names ++ names_of (drop l.one-index l.named) ≡ names_of l.named
