use Rattle.std.proofs.Common.{sym, ◌∙◌}
use Rattle.deed_words.specs.Deeds.{batch_named, batch_for}
use Rattle.batch_book.specs.Batches.{is_called}
use Rattle.batch_book.specs.Content.{world_in}
use Rattle.site_stores.proofs.Finding.{no_batch, the_batch, within}
use Rattle.site_rules.proofs.batches.batch_for.Goals as goal

pub returns-in_default : goal.returns-in_default
unfolding batch_for
returns-in_default c =
    let k = c.args.asked.now.stores.now.content in
    sym (no_batch k (batch_named (world_in k) c.args.asked.now.deed.now) (sym (c.requires.asked.batch_is c.requires.about) ∙ c.in_default.is))

pub batch_at-requires : goal.batch_at-requires
batch_at-requires c =
    let k = c.args.asked.now.stores.now.content in
    within (is_called (batch_named (world_in k) c.args.asked.now.deed.now)) k.batches c.in-Some.batch (sym (c.requires.asked.batch_is c.requires.about) ∙ c.in-Some.is)

pub returns : goal.returns
unfolding batch_for
returns c =
    let k = c.args.asked.now.stores.now.content in
    sym (the_batch k (batch_named (world_in k) c.args.asked.now.deed.now) c.in-Some.batch c.batch_at.result (sym (c.requires.asked.batch_is c.requires.about) ∙ c.in-Some.is) c.batch_at.ensures)
