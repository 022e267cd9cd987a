use Rattle.batch_report.proofs.Joined.{spaces_put}
use Rattle.batch_report.proofs.columns.push_spaces.Goals as goal

pub returns : goal.returns
returns c = spaces_put _ _ _ c.requires c.in_ok-extend_from_slice.ensures.items
