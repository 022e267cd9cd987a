use Rattle.site_store.specs.Standing.{end_of}
use Rattle.site_store.proofs.Turning.{begun_on}
use Rattle.site_console.proofs.Standing.{stands_on}
use Rattle.site_console.proofs.request.turn.Goals as goal

pub returns-clause-turns : goal.returns-clause-turns
returns-clause-turns g c =
    let t = c.submit.ensures.steps in
    (t.0, t.1, t.2, record { end = end_of c.args.store.now.journal.end c.args.store.now.journal.pending; notes = t.3.0; reach = c.requires.stands.is_open.sound.kept.in_reach; step = t.3.3 })

pub returns-clause-stands : goal.returns-clause-stands
returns-clause-stands g c =
    let s = c.args.store.now in
    let u = c.submit.new.self in
    let e = c.submit.ensures in
    let stands = c.requires.stands in
    stands_on g.D.Disk g.C.Clock g.W.Words s u e.open e.opened.1 (begun_on g.D.Disk g.C.Clock g.W.Words (g.D.Disk.image s.opened.value.disk) s u stands.is_open e.opened.0 e.opened.1 e.setup e.grows e.images stands.begun)
