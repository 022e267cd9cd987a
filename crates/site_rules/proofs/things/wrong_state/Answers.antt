use Rattle.std.proofs.Common.{ap, ◌∙◌, List}
use Rattle.std.specs.Prelude.{option_map}
use Rattle.epc_urn.specs.declared.epc.Epc.{Epc}
use Rattle.deed_words.specs.Chain.{each}
use Rattle.deed_words.specs.Tests.{wrong_state, unfit}
use Rattle.deed_words.specs.declared.rule.Rule.TheVariants.{WrongState}
use Rattle.batch_book.specs.Content.{world_in}
use Rattle.site_rules.proofs.things.wrong_state.Goals as goal

pub first_of-requires : goal.first_of-requires
first_of-requires c = record { places = c.as_slice.ensures.value ∙ c.requires.asked.places_are }

pub returns : goal.returns
unfolding wrong_state
returns c =
    let w = world_in c.args.asked.now.stores.now.content in
    c.first_of.ensures ∙ ap (λ (ns : List Epc). each ns (λ k name. option_map (WrongState k) (unfit w c.args.asked.now.deed.now name))) c.requires.asked.names_are
