use Rattle.std.proofs.Common.{ap}
use Rattle.site_sim.proofs.Ended.{simulated}
use Rattle.site_sim.proofs.Noticed.{if_ok, never_there, of_ok, when_ok}
use Rattle.site_sim.proofs.simulation.simulate_from.Goals as goal

pub returns-in-Ok-clause-done : goal.returns-in-Ok-clause-done
returns-in-Ok-clause-done g c =
    let s = c.in-Ok.store in
    let u = c.run-line.new.store in
    let e = c.in-Ok.ensures in
    let r = c.run-line.result in
    if_ok r _
    (λ line is.
    let told = of_ok r _ line c.run-line.ensures.line is in
    simulated g.D.Disk (g.C.Clock.moments_left c.args.devices.clock) (g.W.Words.words_left c.args.devices.words) c.args.seed c.args.count c.args.devices.disk u.journal.disk c.into_devices.result.disk line.items
    u.site.history told.0 told.1 _ _ _ _ e.none told.2 (ap g.C.Clock.moments_left e.devices.0) (ap g.W.Words.words_left e.devices.1) (when_ok r _ line c.run-line.ensures.images is) c.into_devices.ensures.disk told.3)

pub returns-in-Ok-clause-there : goal.returns-in-Ok-clause-there
returns-in-Ok-clause-there g c is = absurd (never_there c.run-line.result c.run-line.ensures.fault is)

pub returns-in-Ok-clause-untouched : goal.returns-in-Ok-clause-untouched
returns-in-Ok-clause-untouched g c is = absurd (never_there c.run-line.result c.run-line.ensures.fault is)
