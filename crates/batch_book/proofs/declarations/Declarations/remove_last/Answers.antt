use Rattle.std.proofs.Common.{refl}
use Rattle.batch_book.proofs.Hearing.{heard_pop}
use Rattle.batch_book.proofs.declarations.Declarations.remove_last.Goals as goal

pub invariant_of-self : goal.invariant_of-self
invariant_of-self c =
    heard_pop _ _ _ _ _ _ _ _ _ c.self.invariant c.take_last-said.ensures.items c.remove_last.ensures.groups c.remove_last.ensures.room c.take_last-said.ensures.capacity refl
