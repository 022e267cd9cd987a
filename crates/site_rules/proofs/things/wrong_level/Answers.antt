use Rattle.std.proofs.Common.{◌≡◌, sym, ap, ◌∙◌, List, Option}
use Rattle.std.specs.Prelude.{option_and_then, nat_eq}
use Rattle.epc_urn.specs.declared.epc.Epc.{Epc}
use Rattle.deed_words.specs.Chain.{when, holds_of}
use Rattle.deed_words.specs.Deeds.{named, batch_for, batch_named}
use Rattle.deed_words.specs.Tests.{misfits, wrong_level}
use Rattle.deed_words.specs.declared.deed.Deed.{Deed}
use Rattle.deed_words.specs.declared.deed.Deed.TheVariants.{Container as MakeUnit}
use Rattle.deed_words.specs.declared.rule.Rule.TheVariants.{WrongLevel}
use Rattle.deed_words.specs.declared.words.Level.TheVariants.{Pallet}
use Rattle.deed_words.specs.declared.world.Batch.{Batch}
use Rattle.deed_words.specs.declared.world.Container.{Container}
use Rattle.batch_book.specs.Content.{world_in}
use Rattle.site_rules.specs.Suits.{is_about_batch}
use Rattle.site_rules.proofs.Elses.{level_else, about_else}
use Rattle.site_rules.proofs.things.wrong_level.Goals as goal

pub unit_for-requires-clause-unit : goal.unit_for-requires-clause-unit
unit_for-requires-clause-unit c = about_else c.args.asked.now.deed.now c.in_default.not-Container c.requires.about

pub returns-in_default-unit_for : goal.returns-in_default-unit_for
returns-in_default-unit_for c =
    let w = world_in c.args.asked.now.stores.now.content in
    let more = λ (unit : Option Container). option_and_then (λ u. misfits w u.level (named w c.args.asked.now.deed.now)) unit in
    ap more (sym c.in_default-unit_for.is ∙ c.unit_for.ensures) ∙ sym (level_else c.args.asked.now.setup.now w c.args.asked.now.station c.args.asked.now.deed.now c.in_default.not-Container)

pub returns-in-Some : goal.returns-in-Some
returns-in-Some c =
    let w = world_in c.args.asked.now.stores.now.content in
    let more = λ (unit : Option Container). option_and_then (λ u. misfits w u.level (named w c.args.asked.now.deed.now)) unit in
    c.misfits.ensures ∙ ap (λ (ns : List Epc). misfits w c.in-Some.unit.level ns) c.requires.asked.names_are
    ∙ ap more (sym c.in-Some.is ∙ c.unit_for.ensures) ∙ sym (level_else c.args.asked.now.setup.now w c.args.asked.now.station c.args.asked.now.deed.now c.in_default.not-Container)

pub no_pallets-requires-clause-about : goal.no_pallets-requires-clause-about
unfolding is_about_batch
no_pallets-requires-clause-about c = ap is_about_batch c.in-Container.is

pub returns-in-Case : goal.returns-in-Case
unfolding wrong_level
returns-in-Case c =
    let w = world_in c.args.asked.now.stores.now.content in
    sym (ap (wrong_level c.args.asked.now.setup.now w c.args.asked.now.station) (c.in-Container.is ∙ ap (MakeUnit c.in-Container.field-0) c.in-Case.is))

pub returns-in-Pallet : goal.returns-in-Pallet
unfolding wrong_level batch_for batch_named
returns-in-Pallet c =
    let w = world_in c.args.asked.now.stores.now.content in
    let is : c.args.asked.now.deed.now ≡ MakeUnit c.in-Container.field-0 Pallet = c.in-Container.is ∙ ap (MakeUnit c.in-Container.field-0) c.in-Pallet.is in
    c.no_pallets.ensures ∙ ap (λ (deed : Deed). when (holds_of (λ (batch : Batch). nat_eq batch.order.pallet_size 0) (batch_for w deed)) (WrongLevel 0)) is
    ∙ sym (ap (wrong_level c.args.asked.now.setup.now w c.args.asked.now.station) is)
