use Rattle.deed_words.proofs.Listing.{draws_told, lends_told}
use Rattle.deed_words.proofs.laws.replies_list_what_is_issued.Goals as goal

pub returns-clause-drawn : goal.returns-clause-drawn
returns-clause-drawn c = draws_told

pub returns-clause-lent : goal.returns-clause-lent
returns-clause-lent c = lends_told
