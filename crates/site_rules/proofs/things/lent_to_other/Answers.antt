use Rattle.std.proofs.Common.{ap, ◌∙◌, List}
use Rattle.std.specs.Prelude.{option_map}
use Rattle.epc_urn.specs.declared.epc.Epc.{Epc}
use Rattle.deed_words.specs.Chain.{each}
use Rattle.deed_words.specs.Tests.{lent_to_other, other_line}
use Rattle.deed_words.specs.declared.rule.Rule.TheVariants.{LentToOther}
use Rattle.batch_book.specs.Content.{world_in}
use Rattle.site_rules.proofs.things.lent_to_other.Goals as goal

pub first_of-requires : goal.first_of-requires
first_of-requires c = record { places = c.as_slice.ensures.value ∙ c.requires.asked.places_are }

pub returns : goal.returns
unfolding lent_to_other
returns c =
    let w = world_in c.args.asked.now.stores.now.content in
    c.first_of.ensures ∙ ap (λ (ns : List Epc). each ns (λ k name. option_map (LentToOther k) (other_line w c.args.asked.now.station name))) c.requires.asked.names_are
