use Rattle.site_turns.proofs.KeptReplies.{answered_are_kept, kept_stays}
use Rattle.site_turns.proofs.laws.answered_are_kept.Goals as goal

pub returns-clause-kept : goal.returns-clause-kept
returns-clause-kept c = let numbers = c.numbers_mean_one_thing.ensures in answered_are_kept numbers.answered numbers.kept c.histories_grow_lawfully.ensures.front

pub returns-clause-stays : goal.returns-clause-stays
returns-clause-stays c = kept_stays c.numbers_mean_one_thing.ensures.kept
