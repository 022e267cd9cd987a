use Rattle.std.proofs.Common.{arith}
use Rattle.worker_doors.proofs.Sharing.{all_have, told_by}
use Rattle.worker_doors.proofs.doors.doors_at.Goals as goal

pub returns : goal.returns
returns c =
    let is = c.loop-worker.invariant in
    all_have told_by c.args.words c.loop-worker.doors.items c.requires.1
    (omega (arith, is.count, c.loop-worker-test.false, c.loop-worker.auto.worker-end)) is.have
