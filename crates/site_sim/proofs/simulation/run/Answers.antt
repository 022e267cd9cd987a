use Rattle.std.proofs.Common.{Bool, sym, ap, subst}
use Rattle.outside.specs.Causes.{HasCauseIf}
use Rattle.site_store.specs.Open.{store_state}
use Rattle.site_sim.specs.declared.known.Known.{Known}
use Rattle.site_sim.specs.Requests.{sends}
use Rattle.site_sim.specs.Standing.{Stands}
use Rattle.site_sim.proofs.Ended.{first_stands, images_hold, line_told, went_settled}
use Rattle.site_sim.proofs.Noticed.{if_ok, not_disk, not_there, of_ok, on_ok}
use Rattle.site_sim.proofs.simulation.run.Goals as goal

pub send_all-requires-clause-stands : goal.send_all-requires-clause-stands
send_all-requires-clause-stands g c =
    subst (λ (k : Known). Stands g.D.Disk g.C.Clock g.W.Words c.args.store.now k) (sym c.new-known.ensures) (first_stands g.D.Disk g.C.Clock g.W.Words c.args.store.now c.requires.opens c.requires.setup c.requires.made)

pub returns-in-Ok-clause-line : goal.returns-in-Ok-clause-line
returns-in-Ok-clause-line g c =
    let s = c.args.store.now in
    let u = c.send_all.new.store in
    let e = c.in-Ok.ensures in
    let w = e.went in
    let r = c.line_for.result in
    if_ok r _
    (λ line is. (
      w.0,
      w.1,
      went_settled (store_state s) (store_state u) (sends c.args.count) _ _ _ _ w.0 w.1 c.requires.made e.stands.none w.3,
      line_told c.args.seed c.args.count c.send_all.new.known.sent w.1 c.site.result.now.history u.site.history line.items w.2 (ap (λ v. v.history) c.site.ensures) (of_ok r _ line c.line_for.ensures.line is),
    ))

pub returns-in-Ok-clause-images : goal.returns-in-Ok-clause-images
returns-in-Ok-clause-images g c = on_ok c.line_for.result _ (λ line is. images_hold g.D.Disk g.C.Clock g.W.Words c.send_all.new.store c.send_all.new.known c.in-Ok.ensures.stands)

pub returns-in-Ok-clause-cause : goal.returns-in-Ok-clause-cause
returns-in-Ok-clause-cause g c =
    subst (λ (b : Bool). HasCauseIf b (g.D.Disk.disk_faults c.args.store.now.journal.disk) (g.D.Disk.disk_faults c.send_all.new.store.journal.disk)) (sym (not_disk c.line_for.result c.line_for.ensures.fault)) c.in-Ok.ensures.cause

pub returns-in-Ok-clause-fault : goal.returns-in-Ok-clause-fault
returns-in-Ok-clause-fault g c = not_there c.line_for.result c.line_for.ensures.fault
