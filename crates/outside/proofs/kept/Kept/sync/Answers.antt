use Rattle.std.proofs.Common.{None}
use Rattle.outside.proofs.PastMoments.{elapses_to}
use Rattle.outside.proofs.kept.Kept.sync.Goals as goal

pub returns-clause-time : goal.returns-clause-time
returns-clause-time c =
    elapses_to c.args.self.now.past.items c.remember.new.past.items c.args.self.now.bytes.items c.args.self.now.bytes.items c.args.self.now.unsynced None c.in_ok-remember.ensures.ok
