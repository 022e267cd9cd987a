use Rattle.std.proofs.Common.{◌<◌, sym, ap, ◌∙◌, Some, length}
use Rattle.deed_words.specs.World.{unit_of}
use Rattle.batch_book.specs.Content.{Content, content_of, world_in}
use Rattle.site_stores.specs.Holding.{Held}
use Rattle.site_stores.proofs.Finding.{no_unit, the_unit, at_place, within}
use Rattle.site_stores.proofs.stores.Stores.unit.Goals as goal
use Rattle.pack_tree.specs.declared.node.UnitRow.{UnitRow}

pub returns-in_default : goal.returns-in_default
returns-in_default c =
    let k : Content = content_of c.self.inside.book c.self.inside.items c.self.inside.tree in
    sym (ap (λ (h : Held). unit_of (world_in h.content) c.args.sscc.now) (sym c.self.view_is) ∙ no_unit k c.args.sscc.now (sym c.find.ensures ∙ c.in_default.is))

pub unit-unit-requires : goal.unit-unit-requires
unit-unit-requires c = within _ c.self.inside.tree.units c.in-Some.at (sym c.find.ensures ∙ c.in-Some.is)

pub told_unit-requires : goal.told_unit-requires
told_unit-requires c = at_place (λ (unit : UnitRow). unit.batch < length c.self.inside.book.batches) c.self.inside.tree.units c.in-Some.at c.unit-unit.result c.unit-unit.ensures c.self.invariant.units

pub returns : goal.returns
returns c =
    let k : Content = content_of c.self.inside.book c.self.inside.items c.self.inside.tree in
    ap Some c.told_unit.ensures
    ∙ sym (ap (λ (h : Held). unit_of (world_in h.content) c.args.sscc.now) (sym c.self.view_is) ∙ the_unit k c.args.sscc.now c.in-Some.at c.unit-unit.result (sym c.find.ensures ∙ c.in-Some.is) c.unit-unit.ensures)
