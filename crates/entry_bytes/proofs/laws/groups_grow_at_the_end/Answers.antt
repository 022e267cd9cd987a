use Rattle.entry_bytes.proofs.Sizes.{group_grows}
use Rattle.entry_bytes.proofs.laws.groups_grow_at_the_end.Goals as goal

pub returns : goal.returns
returns c = group_grows
