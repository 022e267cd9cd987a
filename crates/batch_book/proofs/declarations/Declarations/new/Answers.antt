use Rattle.batch_book.proofs.Hearing.{heard_none}
use Rattle.batch_book.proofs.declarations.Declarations.new.Goals as goal

pub invariant_of-result : goal.invariant_of-result
invariant_of-result c = heard_none _ _ _ c.new.ensures.items c.new-2.ensures.groups
