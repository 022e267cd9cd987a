use Rattle.std.proofs.Common.{arith}
use Rattle.row_chains.proofs.Ends.{ends_same}
use Rattle.row_chains.proofs.chains.ready_ends.Goals as goal

pub returns-in_ok-resize-clause-same : goal.returns-in_ok-resize-clause-same
returns-in_ok-resize-clause-same c = ends_same c.args.ends.now.items c.resize.new.self.items _ (omega (arith, c.if-len-lt-GROUPS.true, c.len.ensures, c.args.ends.now.ok.0)) c.in_ok-resize.ensures.items
