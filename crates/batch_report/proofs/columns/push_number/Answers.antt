use Rattle.batch_report.proofs.Joined.{number_put}
use Rattle.batch_report.proofs.columns.push_number.Goals as goal

pub returns : goal.returns
returns c = number_put _ _ _ _ _ _ c.in_ok-push.ensures.items c.in_ok-push_right.ensures c.in_ok-push_left.ensures
