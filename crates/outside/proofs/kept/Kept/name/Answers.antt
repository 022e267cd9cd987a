use Rattle.outside.proofs.Images.{leads_ok}
use Rattle.outside.proofs.PastMoments.{elapses_to}
use Rattle.outside.proofs.kept.Kept.name.Goals as goal

pub returns-clause-time : goal.returns-clause-time
returns-clause-time c =
    elapses_to c.args.self.now.past.items c.remember.new.past.items c.args.self.now.bytes.items c.args.self.now.bytes.items c.args.self.now.unsynced c.name_range.new.unsynced c.in_ok-remember.ensures.ok

pub returns-clause-any_bytes : goal.returns-clause-any_bytes
returns-clause-any_bytes c =
    leads_ok c.name_range.result c.args.at c.args.len c.args.self.now.bytes.items c.args.self.now.unsynced c.name_range.new.unsynced c.name_range.ensures.ok
