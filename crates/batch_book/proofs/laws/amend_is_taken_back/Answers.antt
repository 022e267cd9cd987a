use Rattle.std.proofs.Common.{◌<◌, List, length, sym, ap, subst, ◌∙◌}
use Rattle.deed_words.specs.declared.world.Batch.{Batch}
use Rattle.batch_book.specs.Batches.{with_quantity, amended}
use Rattle.batch_book.proofs.Named.{length_changed, amended_back, amended_open}
use Rattle.batch_book.proofs.laws.amend_is_taken_back.Goals as goal

pub amend-requires-2-clause-range : goal.amend-requires-2-clause-range
amend-requires-2-clause-range c =
    subst (λ n. c.args.batch < n) (sym (ap (λ (xs : List Batch). length xs) c.amend.ensures.batches ∙ length_changed (with_quantity c.args.quantity) c.args.book.now.batches c.args.batch)) c.requires.range

pub amend-requires-2-clause-open : goal.amend-requires-2-clause-open
amend-requires-2-clause-open c = amended_open c.args.book.now.batches c.amend.new.self.batches c.args.batch c.args.quantity c.requires.range c.amend.ensures.batches c.requires.open

pub returns : goal.returns
returns c =
    let batches = c.amend-2.ensures.batches ∙ ap (λ (xs : List Batch). amended xs c.args.batch c.quantity-was.result) c.amend.ensures.batches
    ∙ amended_back c.args.book.now.batches c.args.batch c.quantity-was.result c.args.quantity c.requires.range c.quantity-was.ensures in
    let declarations = c.amend-2.ensures.declarations ∙ c.amend.ensures.declarations in
    let batch_spare = c.amend-2.ensures.batch_spare ∙ c.amend.ensures.batch_spare in
    let declaration_spare = c.amend-2.ensures.declaration_spare ∙ c.amend.ensures.declaration_spare in
    λ z. record { batches = batches z; declarations = declarations z; batch_spare = batch_spare z; declaration_spare = declaration_spare z }
