use Rattle.std.proofs.Common.{◌≡◌, List, length, ap, ◌∙◌, arith}
use Rattle.deed_words.specs.declared.world.Batch.{Batch}
use Rattle.batch_book.specs.Batches.{with_quantity}
use Rattle.batch_book.proofs.Named.{length_changed}
use Rattle.batch_book.proofs.book.Book.amend.Goals as goal

pub invariant_of-self : goal.invariant_of-self
invariant_of-self c = λ k d l.
    let n : length c.amend.new.self.batches ≡ length c.self.inside.orders.batches = ap (λ (xs : List Batch). length xs) c.amend.ensures.batches ∙ length_changed (with_quantity c.args.quantity) c.self.inside.orders.batches c.batch.inside.0 in
    omega (arith, n, c.self.invariant k d l)
