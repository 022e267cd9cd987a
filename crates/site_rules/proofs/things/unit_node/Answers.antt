use Rattle.std.proofs.Common.{ℕ, Option, Some, sym, ap, ◌∙◌}
use Rattle.std.specs.Prelude.{option_map}
use Rattle.pack_tree.specs.declared.node.Node.TheVariants.{Unit as AUnit}
use Rattle.site_stores.specs.Places.{place_of}
use Rattle.site_rules.proofs.things.unit_node.Goals as goal

pub returns-in-Some : goal.returns-in-Some
unfolding place_of
returns-in-Some c = ap (λ (at : ℕ). Some (AUnit at)) c.unit.view_is ∙ ap (λ (o : Option ℕ). option_map AUnit o) (sym c.in-Some.is ∙ c.requires.asked.unit_is c.requires.unit)

pub returns-in-None : goal.returns-in-None
unfolding place_of
returns-in-None c = ap (λ (o : Option ℕ). option_map AUnit o) (sym c.in-None.is ∙ c.requires.asked.unit_is c.requires.unit)
