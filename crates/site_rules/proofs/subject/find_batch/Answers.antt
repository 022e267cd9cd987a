use Rattle.std.proofs.Common.{sym, ap, ◌∙◌, true≢false}
use Rattle.std.specs.List.{position}
use Rattle.deed_words.specs.Names.{Text}
use Rattle.batch_book.specs.Batches.{is_called}
use Rattle.batch_book.specs.Content.{world_in}
use Rattle.site_rules.proofs.subject.find_batch.Goals as goal

pub returns-in_default : goal.returns-in_default
returns-in_default c = λ about. absurd (true≢false (sym (c.in_default.ensures.unit about) ∙ c.requires.no_unit))

pub returns : goal.returns
returns c = λ _.
    let k = c.args.stores.now.content in
    c.find_batch.ensures ∙ ap (λ (name : Text). position (is_called name) k.batches) (sym (c.in-Some.ensures.some (world_in k)))
