use Rattle.batch_report.proofs.Joined.{line_put}
use Rattle.batch_report.proofs.text.push_line.Goals as goal

pub returns : goal.returns
returns c = line_put _ _ _ _ _ _ c.args.line.now c.in_ok-push.ensures.items c.in_ok-push_numbers.ensures c.in_ok-push_left-2.ensures c.bytes.ensures.is c.in_ok-push_left.ensures
