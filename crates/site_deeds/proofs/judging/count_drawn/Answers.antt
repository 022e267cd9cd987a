use Rattle.std.proofs.Common.{sym, ap, ◌∙◌}
use Rattle.std.specs.List.{position}
use Rattle.deed_words.specs.Deeds.{batch_named}
use Rattle.deed_words.specs.declared.deed.Deed.{Deed}
use Rattle.batch_book.specs.Batches.{is_called}
use Rattle.batch_book.specs.Content.{world_in}
use Rattle.site_rules.specs.Suits.{is_about_batch}
use Rattle.site_stores.proofs.Finding.{no_batch, the_batch, within}
use Rattle.site_deeds.proofs.OfDraw.{draw_only, count_is, count_nowhere}
use Rattle.site_deeds.proofs.judging.count_drawn.Goals as goal

pub returns-in_default : goal.returns-in_default
returns-in_default c = λ draw batch e. absurd (draw_only c.args.deed.now draw c.in_default.not-Draw)

pub batch_at-requires : goal.batch_at-requires
unfolding is_about_batch batch_named
batch_at-requires c =
    let k = c.args.stores.now.content in
    let place = c.requires.subject.batch_is (ap is_about_batch c.in-Draw.is) ∙ ap (λ (deed : Deed). position (is_called (batch_named (world_in k) deed)) k.batches) c.in-Draw.is in
    within (is_called c.in-Draw.field-0) k.batches c.in-Some.batch (sym place ∙ c.in-Some.is)

pub returns-in-Some : goal.returns-in-Some
unfolding is_about_batch batch_named
returns-in-Some c =
    let k = c.args.stores.now.content in
    let place = c.requires.subject.batch_is (ap is_about_batch c.in-Draw.is) ∙ ap (λ (deed : Deed). position (is_called (batch_named (world_in k) deed)) k.batches) c.in-Draw.is in
    count_is k c.args.deed.now c.in-Draw.field-0 _ c.batch_at.result c.args.pool.now.drawn c.drawn.result c.in-Draw.is (the_batch k c.in-Draw.field-0 c.in-Some.batch c.batch_at.result (sym place ∙ c.in-Some.is) c.batch_at.ensures) c.requires.pool c.drawn.ensures.count

pub returns-in-None : goal.returns-in-None
unfolding is_about_batch batch_named
returns-in-None c =
    let k = c.args.stores.now.content in
    let place = c.requires.subject.batch_is (ap is_about_batch c.in-Draw.is) ∙ ap (λ (deed : Deed). position (is_called (batch_named (world_in k) deed)) k.batches) c.in-Draw.is in
    count_nowhere k c.args.deed.now c.in-Draw.field-0 _ 0 c.in-Draw.is (no_batch k c.in-Draw.field-0 (sym place ∙ c.in-None.is))
