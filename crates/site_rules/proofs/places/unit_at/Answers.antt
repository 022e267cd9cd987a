use Rattle.std.proofs.Common.{◌<◌, sym, ap, ◌∙◌, Some, length}
use Rattle.pack_tree.specs.declared.node.UnitRow.{UnitRow}
use Rattle.site_stores.proofs.Finding.{at_place}
use Rattle.site_rules.proofs.Placed.{unit_nowhere, unit_within, unit_placed, unit_no_item}
use Rattle.site_rules.proofs.places.unit_at.Goals as goal

pub returns-in_default : goal.returns-in_default
returns-in_default c = sym (unit_nowhere c.args.stores.now.content c.args.sscc.now (sym c.requires.place ∙ c.in_default.is))

pub returns-in-Item : goal.returns-in-Item
returns-in-Item c = absurd (unit_no_item c.args.stores.now.content c.args.sscc.now _ (sym c.requires.place ∙ c.in-Some.is ∙ ap Some c.in-Item.is))

pub unit_at-unit-requires : goal.unit_at-unit-requires
unit_at-unit-requires c = unit_within c.args.stores.now.content c.args.sscc.now c.in-Unit.at (sym c.requires.place ∙ c.in-Some.is ∙ ap Some c.in-Unit.is)

pub told_unit-requires : goal.told_unit-requires
told_unit-requires c = at_place (λ (unit : UnitRow). unit.batch < length c.args.stores.now.content.batches) c.args.stores.now.content.units c.in-Unit.at c.unit_at-unit.result c.unit_at-unit.ensures c.tell_whole.ensures.units

pub returns-in-Unit : goal.returns-in-Unit
returns-in-Unit c =
    ap Some c.told_unit.ensures
    ∙ sym (unit_placed c.args.stores.now.content c.args.sscc.now c.in-Unit.at c.unit_at-unit.result (sym c.requires.place ∙ c.in-Some.is ∙ ap Some c.in-Unit.is) c.unit_at-unit.ensures)
