use Rattle.std.proofs.Common.{sym, ap, ◌∙◌, List, not, true≢false}
use Rattle.epc_urn.specs.declared.epc.Epc.{Epc}
use Rattle.deed_words.specs.Names.{Text, same}
use Rattle.deed_words.specs.Chain.{each, when, holds_of}
use Rattle.deed_words.specs.World.{parent}
use Rattle.deed_words.specs.Deeds.{unit_named}
use Rattle.deed_words.specs.Tests.{not_child}
use Rattle.deed_words.specs.declared.rule.Rule.TheVariants.{NotChild}
use Rattle.batch_book.specs.Content.{world_in}
use Rattle.site_rules.proofs.things.not_child.Goals as goal

pub returns-in_default : goal.returns-in_default
returns-in_default c = absurd (true≢false (sym c.requires.unit ∙ c.in_default.ensures.none))

pub first_of-requires : goal.first_of-requires
first_of-requires c = record { places = c.as_slice.ensures.value ∙ c.requires.asked.places_are }

pub returns : goal.returns
unfolding not_child
returns c =
    let w = world_in c.args.asked.now.stores.now.content in
    c.first_of.ensures ∙ ap (λ (unit : Text). each c.args.asked.now.names.now (λ k name. when (not (holds_of (same unit) (parent w name))) (NotChild k))) c.in-Some.ensures.some
    ∙ ap (λ (ns : List Epc). each ns (λ k name. when (not (holds_of (same (unit_named c.args.asked.now.deed.now)) (parent w name))) (NotChild k))) c.requires.asked.names_are
