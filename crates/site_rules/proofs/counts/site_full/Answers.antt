use Rattle.std.proofs.Common.{ℕ, sym, ap, ◌∙◌, length}
use Rattle.std.proofs.lemmas.List.{length-map}
use Rattle.deed_words.specs.Tests.{full, site_full}
use Rattle.deed_words.specs.declared.deed.Deed.{Deed}
use Rattle.deed_words.specs.declared.words.What.TheVariants.{Batches, Serials, Units}
use Rattle.batch_book.specs.Content.{world_in, row_in, unit_in, batch_names}
use Rattle.site_rules.proofs.Elses.{full_else}
use Rattle.site_rules.proofs.counts.site_full.Goals as goal

pub returns-in_default : goal.returns-in_default
returns-in_default c =
    let w = world_in c.args.asked.now.stores.now.content in
    c.full-in_default.ensures ∙ ap (λ (have : ℕ). full Batches have c.count_new-more.result 4096) c.batch_count-have.ensures
    ∙ ap (λ (more : ℕ). full Batches (length w.batches) more 4096) c.count_new-more.ensures.is
    ∙ sym (full_else c.args.asked.now.setup.now w c.args.asked.now.station c.args.asked.now.deed.now c.in_default.not-Draw c.in_default.not-Container)

pub returns-in-Draw : goal.returns-in-Draw
unfolding site_full
returns-in-Draw c =
    let k = c.args.asked.now.stores.now.content in
    c.full.ensures ∙ ap (λ (have : ℕ). full Serials have c.in-Draw.count 1000000) (c.row_count-have.ensures ∙ sym (length-map k.rows (row_in (batch_names k))))
    ∙ ap (λ (deed : Deed). site_full c.args.asked.now.setup.now (world_in k) c.args.asked.now.station deed) (sym c.in-Draw.is)

pub returns-in-Container : goal.returns-in-Container
unfolding site_full
returns-in-Container c =
    let k = c.args.asked.now.stores.now.content in
    c.full-in-Container.ensures ∙ ap (λ (have : ℕ). full Units have 1 65536) (c.unit_count-have.ensures ∙ sym (length-map k.units (unit_in (batch_names k))))
    ∙ ap (λ (deed : Deed). site_full c.args.asked.now.setup.now (world_in k) c.args.asked.now.station deed) (sym c.in-Container.is)
