use Rattle.std.proofs.Common.{◌∙◌}
use Rattle.batch_report.specs.Texts.{number_cell}
use Rattle.batch_report.proofs.Joined.{right_put}
use Rattle.batch_report.proofs.columns.push_right.Goals as goal

pub returns : goal.returns
unfolding number_cell
returns c = right_put _ _ _ _ _ _ c.in_ok-extend_from_slice.ensures.items c.in_ok-push_spaces.ensures c.saturating_sub.ensures (c.as_bytes-text.ensures.value ∙ c.format.ensures.text)
