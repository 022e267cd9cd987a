use Rattle.std.proofs.Common.{◌<◌, Some, length, sym, ap, ◌∙◌}
use Rattle.deed_words.specs.Deeds.{unit_named}
use Rattle.pack_tree.specs.declared.node.UnitRow.{UnitRow}
use Rattle.pack_tree.specs.Units.{is_coded}
use Rattle.site_stores.proofs.Finding.{no_unit, the_unit, within, at_place}
use Rattle.site_rules.proofs.batches.unit_for.Goals as goal

pub returns-in_default : goal.returns-in_default
returns-in_default c = sym (no_unit c.args.asked.now.stores.now.content (unit_named c.args.asked.now.deed.now) (sym (c.requires.asked.unit_is c.requires.unit) ∙ c.in_default.is))

pub unit_at-row-requires : goal.unit_at-row-requires
unit_at-row-requires c = within (is_coded (unit_named c.args.asked.now.deed.now)) c.args.asked.now.stores.now.content.units c.in-Some.unit (sym (c.requires.asked.unit_is c.requires.unit) ∙ c.in-Some.is)

pub told_unit-requires : goal.told_unit-requires
told_unit-requires c =
    let k = c.args.asked.now.stores.now.content in
    at_place (λ (unit : UnitRow). unit.batch < length k.batches) k.units c.in-Some.unit c.unit_at-row.result c.unit_at-row.ensures c.tell_whole.ensures.units

pub returns : goal.returns
returns c =
    let k = c.args.asked.now.stores.now.content in
    ap Some c.told_unit.ensures ∙ sym (the_unit k (unit_named c.args.asked.now.deed.now) c.in-Some.unit c.unit_at-row.result (sym (c.requires.asked.unit_is c.requires.unit) ∙ c.in-Some.is) c.unit_at-row.ensures)
