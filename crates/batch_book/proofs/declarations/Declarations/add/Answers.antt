use Rattle.std.proofs.Common.{◌≡◌, ◌-◌, ◌+◌, ◌∷◌, ◌++◌, [], ap, ◌∙◌, arith}
use Rattle.batch_book.specs.Ledgers.{Heard}
use Rattle.batch_book.proofs.Hearing.{heard_push}
use Rattle.batch_book.proofs.declarations.Declarations.add.Goals as goal

pub invariant_of-self : goal.invariant_of-self
invariant_of-self c =
    let some : c.self.inside.spare - 1 + 1 ≡ c.self.inside.spare = omega (arith, ap (λ (v : Heard). v.spare) c.self.view_is) in
    heard_push _ _ _ _ _ _ _ _ _ c.self.invariant c.push_reserved.ensures.items (c.push.ensures.groups ∙ ap (λ b. c.self.inside.chains.groups ++ b ∷ []) c.batch_of.ensures) c.push.ensures.room c.push_reserved.ensures.capacity some
