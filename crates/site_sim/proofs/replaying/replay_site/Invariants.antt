use Rattle.std.proofs.Common.{◌-◌}
use Rattle.epcis_events.specs.Events.{events}
use Rattle.site_sim.proofs.Blocks.{Replaying}
use Rattle.site_sim.proofs.replaying.replay_site.Given as goal

abbrev pub invariant-rounds : goal.invariant-rounds
invariant-rounds l = Replaying (events l.site.setup l.site.history) l.replay l.at

abbrev pub decreases-rounds : goal.decreases-rounds
decreases-rounds l = 4294967295 - l.at
