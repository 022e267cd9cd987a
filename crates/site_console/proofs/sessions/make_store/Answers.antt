use Rattle.site_console.proofs.Filed.{opened, unopened}
use Rattle.site_console.proofs.sessions.make_store.Goals as goal

pub returns-in-Ok : goal.returns-in-Ok
returns-in-Ok g c =
    let r = c.in-Ok.ensures in
    let m = c.make_journal.ensures in
    record { session = opened g.D.Disk c.args.devices c.make_journal.result.1 _ _ _ _ r.reads.0 c.in-Ok.setup c.make_journal.result.0 r.reads.1 r.reads.2 r.cause m.makes m.write }

pub returns-in-Err : goal.returns-in-Err
returns-in-Err g c =
    let r = c.in-Err.ensures in
    record { session = rw (c.ending_of_file.ensures) (unopened g.D.Disk c.args.devices _ _ _ r.reads.0 c.in-Err.fault r.reads.1 r.reads.2 r.cause) }
