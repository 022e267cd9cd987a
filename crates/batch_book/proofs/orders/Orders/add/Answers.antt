use Rattle.std.proofs.Common.{◌≡◌, false, ◌-◌, ◌+◌, ◌∷◌, ◌++◌, [], sym, ap, subst, ◌∙◌, arith}
use Rattle.std.specs.List.{All}
use Rattle.batch_book.specs.Batches.{is_called}
use Rattle.batch_book.specs.Ledgers.{Ordered}
use Rattle.batch_book.proofs.Named.{ordered_push}
use Rattle.batch_book.proofs.orders.Orders.add.Goals as goal

pub invariant_of-self : goal.invariant_of-self
invariant_of-self c =
    let some : c.self.inside.spare - 1 + 1 ≡ c.self.inside.spare = omega (arith, ap (λ (v : Ordered). v.spare) c.self.view_is) in
    ordered_push _ _ _ _ _ _ _ _ _ c.self.invariant c.push_reserved.ensures.items (c.insert.ensures.hashes ∙ ap (λ h. c.self.inside.table.hashes ++ h ∷ []) c.hash_of.ensures.is)
    c.insert.ensures.room c.push_reserved.ensures.capacity some
    (subst (λ (v : Ordered). All (λ b. is_called c.args.batch.order.batch b ≡ false) v.batches) (sym c.self.view_is) c.requires.new) c.hash_of.ensures.named
