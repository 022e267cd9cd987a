use Rattle.deed_words.proofs.Numbered.{one_meaning, kept_entry, kept_on, reused_on, kept_deed}
use Rattle.deed_words.proofs.laws.numbers_mean_one_thing.Goals as goal

pub returns-clause-one : goal.returns-clause-one
returns-clause-one c = one_meaning

pub returns-clause-answered : goal.returns-clause-answered
returns-clause-answered c = kept_entry

pub returns-clause-kept : goal.returns-clause-kept
returns-clause-kept c = kept_on

pub returns-clause-reused : goal.returns-clause-reused
returns-clause-reused c = reused_on

pub returns-clause-repeated : goal.returns-clause-repeated
returns-clause-repeated c = kept_deed
