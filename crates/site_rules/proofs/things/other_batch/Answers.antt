use Rattle.std.proofs.Common.{sym, ap, ◌∙◌, List, map}
use Rattle.gs1_element.specs.declared.code.Code.{Code}
use Rattle.deed_words.specs.Chain.{each}
use Rattle.deed_words.specs.Deeds.{named, batch_named, batch_for, item_of}
use Rattle.deed_words.specs.Tests.{other_batch, strays}
use Rattle.deed_words.specs.declared.deed.Deed.{Deed}
use Rattle.batch_book.specs.Content.{world_in}
use Rattle.site_stores.specs.Places.{place_of}
use Rattle.site_rules.specs.Rows.{stray}
use Rattle.site_rules.proofs.Elses.{other_else}
use Rattle.site_rules.proofs.things.other_batch.Goals as goal

pub first_stray-requires-clause-batch : goal.first_stray-requires-clause-batch
unfolding batch_for batch_named
first_stray-requires-clause-batch c = c.batch_for-batch.ensures ∙ ap (batch_for (world_in c.args.asked.now.stores.now.content)) c.in-Commission.is

pub first_stray-requires-clause-places : goal.first_stray-requires-clause-places
unfolding named
first_stray-requires-clause-places c =
    let w = world_in c.args.asked.now.stores.now.content in
    let place = place_of c.args.asked.now.stores.now.content.rows c.args.asked.now.stores.now.content.units in
    c.as_slice-in-Commission.ensures.value ∙ c.requires.asked.places_are ∙ ap (map place) (c.requires.asked.names_are ∙ ap (named w) c.in-Commission.is ∙ ap (map item_of) (sym c.as_slice.ensures))

pub returns-in-Commission : goal.returns-in-Commission
unfolding other_batch
returns-in-Commission c =
    let w = world_in c.args.asked.now.stores.now.content in
    c.first_stray.ensures ∙ ap (λ (cs : List Code). each cs (stray w c.in-Commission.name)) c.as_slice.ensures
    ∙ ap (λ (deed : Deed). other_batch c.args.asked.now.setup.now w c.args.asked.now.station deed) (sym c.in-Commission.is)

pub returns-in_default : goal.returns-in_default
returns-in_default c =
    let w = world_in c.args.asked.now.stores.now.content in
    c.first_foreign.ensures ∙ ap (strays w (batch_named w c.args.asked.now.deed.now)) c.requires.asked.names_are
    ∙ sym (other_else c.args.asked.now.setup.now w c.args.asked.now.station c.args.asked.now.deed.now c.in_default.not-Commission)
