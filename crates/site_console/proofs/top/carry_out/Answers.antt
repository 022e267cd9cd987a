use Rattle.std.proofs.Common.{refl}
use Rattle.site_console.proofs.top.carry_out.Goals as goal

pub returns-in-Report-clause-session : goal.returns-in-Report-clause-session
returns-in-Report-clause-session g c = rw (c.in-Report.is) (refl, refl, c.look_store.ensures.session (record { bytes = g.I.Source.left c.args.input.now; faults = g.I.Source.read_faults c.args.input.now }))

pub returns-in-Export-clause-session : goal.returns-in-Export-clause-session
returns-in-Export-clause-session g c = rw (c.in-Export.is) (refl, refl, c.look_store-in-Export.ensures.session (record { bytes = g.I.Source.left c.args.input.now; faults = g.I.Source.read_faults c.args.input.now }))

pub returns-in-Check-clause-session : goal.returns-in-Check-clause-session
returns-in-Check-clause-session g c = rw (c.in-Check.is) (refl, refl, c.look_store-in-Check.ensures.session (record { bytes = g.I.Source.left c.args.input.now; faults = g.I.Source.read_faults c.args.input.now }))

pub returns-in-Log-clause-session : goal.returns-in-Log-clause-session
returns-in-Log-clause-session g c = rw (c.in-Log.is) (refl, refl, c.look_store-in-Log.ensures.session (record { bytes = g.I.Source.left c.args.input.now; faults = g.I.Source.read_faults c.args.input.now }))

pub returns-in-Simulate-clause-session : goal.returns-in-Simulate-clause-session
returns-in-Simulate-clause-session g c = rw (c.in-Simulate.is) (refl, refl, c.simulate_store.ensures.session)
