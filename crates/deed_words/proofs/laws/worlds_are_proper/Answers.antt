use Rattle.deed_words.proofs.ProperlyKept.{proper_after, proper_of, none_nameless}
use Rattle.deed_words.proofs.laws.worlds_are_proper.Goals as goal

pub returns-clause-entry : goal.returns-clause-entry
returns-clause-entry c = proper_after

pub returns-clause-history : goal.returns-clause-history
returns-clause-history c = proper_of

pub returns-clause-nameless : goal.returns-clause-nameless
returns-clause-nameless c = none_nameless
