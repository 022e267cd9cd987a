use Rattle.std.proofs.Common.{ap, ◌∙◌}
use Rattle.std.specs.List.{position}
use Rattle.deed_words.specs.Deeds.{batch_named}
use Rattle.deed_words.specs.declared.deed.Deed.{Deed}
use Rattle.batch_book.specs.Batches.{is_called}
use Rattle.batch_book.specs.Content.{world_in}
use Rattle.site_rules.specs.Suits.{is_about_batch}
use Rattle.site_rules.proofs.asking.make_names.Goals as goal

pub of_batch-requires : goal.of_batch-requires
unfolding is_about_batch batch_named
of_batch-requires c =
    let k = c.args.stores.now.content in
    record { place = c.requires.subject.batch_is (ap is_about_batch c.in-Spoil.is) ∙ ap (λ (deed : Deed). position (is_called (batch_named (world_in k) deed)) k.batches) c.in-Spoil.is }

pub of_batch-requires-in-Giveback : goal.of_batch-requires-in-Giveback
unfolding is_about_batch batch_named
of_batch-requires-in-Giveback c =
    let k = c.args.stores.now.content in
    record { place = c.requires.subject.batch_is (ap is_about_batch c.in-Giveback.is) ∙ ap (λ (deed : Deed). position (is_called (batch_named (world_in k) deed)) k.batches) c.in-Giveback.is }
