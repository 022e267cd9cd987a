use Rattle.std.proofs.Common.{List, sym, ap, ◌∙◌}
use Rattle.deed_words.specs.Deeds.{batch_named}
use Rattle.deed_words.specs.declared.words.State.TheVariants.{Fresh}
use Rattle.item_store.specs.declared.row.ItemRow.{ItemRow}
use Rattle.item_store.specs.Rows.{count_in}
use Rattle.batch_book.specs.Content.{world_in}
use Rattle.site_stores.proofs.Counted.{fresh_there, none_fresh}
use Rattle.site_rules.proofs.Elses.{lend_about}
use Rattle.site_rules.proofs.counts.fresh.Goals as goal

pub returns-in-Some : goal.returns-in-Some
returns-in-Some c =
    let k = c.args.asked.now.stores.now.content in
    let whole = c.tell_whole.ensures in
    c.count.ensures ∙ ap (λ (rows : List ItemRow). count_in c.in-Some.batch Fresh rows) c.items.ensures
    ∙ fresh_there k (batch_named (world_in k) c.args.asked.now.deed.now) c.in-Some.batch whole.batches_apart whole.batches_named (sym (c.requires.asked.batch_is (lend_about c.args.asked.now.deed.now c.requires.lend)) ∙ c.in-Some.is)

pub returns-in-None : goal.returns-in-None
returns-in-None c =
    let k = c.args.asked.now.stores.now.content in
    sym (none_fresh k (batch_named (world_in k) c.args.asked.now.deed.now) c.tell_whole.ensures.rows (sym (c.requires.asked.batch_is (lend_about c.args.asked.now.deed.now c.requires.lend)) ∙ c.in-None.is))
