use Rattle.batch_report.proofs.Joined.{left_put}
use Rattle.batch_report.proofs.columns.push_left.Goals as goal

pub returns : goal.returns
returns c = left_put _ _ _ _ _ _ c.in_ok-push_spaces.ensures c.in_ok-extend_from_slice.ensures.items c.saturating_sub.ensures
