use Rattle.batch_report.proofs.Joined.{text_put}
use Rattle.batch_report.proofs.columns.push_text.Goals as goal

pub returns : goal.returns
returns c = text_put _ _ _ _ _ _ c.in_ok-push.ensures.items c.in_ok-extend_from_slice.ensures.items c.in_ok-push_left.ensures
