use Rattle.std.proofs.Common.{◌≡◌, List, [], Option, map, sym, ap, ◌∙◌, subst}
use Rattle.std.specs.Prelude.{IfOk}
use Rattle.std.specs.Option.{option_map_or}
use Rattle.epc_urn.specs.declared.epc.Epc.{Epc}
use Rattle.epc_urn.specs.declared.epc.Epc.TheVariants.{Item}
use Rattle.deed_words.specs.Deeds.{items_of}
use Rattle.deed_words.specs.declared.world.Batch.{Batch}
use Rattle.batch_book.specs.Batches.{is_called}
use Rattle.site_stores.proofs.Finding.{no_batch, the_batch, within}
use Rattle.site_rules.proofs.asking.of_batch.Goals as goal

pub batch_at-requires : goal.batch_at-requires
batch_at-requires c = within (is_called c.args.name.now) c.args.stores.now.content.batches c.in-Some.batch (sym c.requires.place ∙ c.in-Some.is)

pub returns-in-Some : goal.returns-in-Some
unfolding items_of
returns-in-Some c =
    let k = c.args.stores.now.content in
    subst (λ (items : List Epc). IfOk c.of_serials.result (λ names. names ≡ items))
    (ap (λ (o : Option Batch). option_map_or (λ (batch : Batch). map (Item batch.order.gtin) c.args.serials.now) o []) (sym (the_batch k c.args.name.now c.in-Some.batch c.batch_at.result (sym c.requires.place ∙ c.in-Some.is) c.batch_at.ensures)))
    c.of_serials.ensures

pub returns-in-None : goal.returns-in-None
unfolding items_of
returns-in-None c =
    let k = c.args.stores.now.content in
    c.new.ensures ∙ sym (ap (λ (o : Option Batch). option_map_or (λ (batch : Batch). map (Item batch.order.gtin) c.args.serials.now) o []) (no_batch k c.args.name.now (sym c.requires.place ∙ c.in-None.is)))
