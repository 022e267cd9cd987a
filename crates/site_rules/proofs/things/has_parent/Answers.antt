use Rattle.std.proofs.Common.{sym, ap, ◌∙◌, List}
use Rattle.std.specs.Prelude.{option_map}
use Rattle.epc_urn.specs.declared.epc.Epc.{Epc}
use Rattle.epc_urn.specs.declared.epc.Epc.TheVariants.{Unit as Box}
use Rattle.deed_words.specs.Chain.{each}
use Rattle.deed_words.specs.World.{parent}
use Rattle.deed_words.specs.Deeds.{unit_named}
use Rattle.deed_words.specs.declared.deed.Deed.{Deed}
use Rattle.deed_words.specs.declared.rule.Rule.TheVariants.{HasParent}
use Rattle.batch_book.specs.Content.{world_in}
use Rattle.site_stores.specs.Places.{place_of}
use Rattle.site_rules.specs.Suits.{names_unit}
use Rattle.site_rules.proofs.Elses.{parent_else}
use Rattle.site_rules.proofs.things.has_parent.Goals as goal

pub first_of-requires : goal.first_of-requires
first_of-requires c = record { places = c.as_slice.ensures.value ∙ c.requires.asked.places_are }

pub returns-in_default : goal.returns-in_default
returns-in_default c =
    let w = world_in c.args.asked.now.stores.now.content in
    c.first_of.ensures ∙ ap (λ (ns : List Epc). each ns (λ k name. option_map (HasParent k) (parent w name))) c.requires.asked.names_are
    ∙ sym (parent_else c.args.asked.now.setup.now w c.args.asked.now.station c.args.asked.now.deed.now c.in_default.not-Unseal)

pub unit_node-requires-clause-unit : goal.unit_node-requires-clause-unit
unfolding names_unit
unit_node-requires-clause-unit c = ap names_unit c.in-Unseal.is

pub parent_at-requires : goal.parent_at-requires
unfolding unit_named
parent_at-requires c =
    let k = c.args.asked.now.stores.now.content in
    record { place = c.unit_node.ensures ∙ ap (λ (deed : Deed). place_of k.rows k.units (Box (unit_named deed))) c.in-Unseal.is }
