use Rattle.std.proofs.Common.{◌<◌, List, length, sym, ap, subst, ◌∙◌}
use Rattle.deed_words.specs.declared.world.Batch.{Batch}
use Rattle.batch_book.specs.Batches.{with_phase, phased}
use Rattle.batch_book.proofs.Named.{length_changed, phased_back}
use Rattle.batch_book.proofs.laws.phase_is_taken_back.Goals as goal

pub set_phase-requires-2 : goal.set_phase-requires-2
set_phase-requires-2 c = subst (λ n. c.args.batch < n) (sym (ap (λ (xs : List Batch). length xs) c.set_phase.ensures.batches ∙ length_changed (with_phase c.args.phase) c.args.book.now.batches c.args.batch)) c.requires

pub returns : goal.returns
returns c =
    let batches = c.set_phase-2.ensures.batches ∙ ap (λ (xs : List Batch). phased xs c.args.batch c.phase-was.result) c.set_phase.ensures.batches
    ∙ phased_back c.args.book.now.batches c.args.batch c.phase-was.result c.args.phase c.requires c.phase-was.ensures in
    let declarations = c.set_phase-2.ensures.declarations ∙ c.set_phase.ensures.declarations in
    let batch_spare = c.set_phase-2.ensures.batch_spare ∙ c.set_phase.ensures.batch_spare in
    let declaration_spare = c.set_phase-2.ensures.declaration_spare ∙ c.set_phase.ensures.declaration_spare in
    λ z. record { batches = batches z; declarations = declarations z; batch_spare = batch_spare z; declaration_spare = declaration_spare z }
