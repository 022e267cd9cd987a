use Rattle.std.proofs.Common.{◌<◌, sym, ap, ◌∙◌, Some, length}
use Rattle.item_store.specs.declared.row.ItemRow.{ItemRow}
use Rattle.site_stores.proofs.Finding.{at_place}
use Rattle.site_rules.proofs.Placed.{row_nowhere, row_within, row_placed, row_no_unit}
use Rattle.site_rules.proofs.places.row_at.Goals as goal

pub returns-in_default : goal.returns-in_default
returns-in_default c = sym (row_nowhere c.args.stores.now.content c.args.gtin.now c.args.serial.now (sym c.requires.place ∙ c.in_default.is))

pub item_at-row-requires : goal.item_at-row-requires
item_at-row-requires c = row_within c.args.stores.now.content c.args.gtin.now c.args.serial.now c.in-Item.at (sym c.requires.place ∙ c.in-Some.is ∙ ap Some c.in-Item.is)

pub told_row-requires : goal.told_row-requires
told_row-requires c = at_place (λ (row : ItemRow). row.batch < length c.args.stores.now.content.batches) c.args.stores.now.content.rows c.in-Item.at c.item_at-row.result c.item_at-row.ensures.is c.tell_whole.ensures.rows

pub returns-in-Item : goal.returns-in-Item
returns-in-Item c =
    ap Some c.told_row.ensures
    ∙ sym (row_placed c.args.stores.now.content c.args.gtin.now c.args.serial.now c.in-Item.at c.item_at-row.result (sym c.requires.place ∙ c.in-Some.is ∙ ap Some c.in-Item.is) c.item_at-row.ensures.is)

pub returns-in-Unit : goal.returns-in-Unit
returns-in-Unit c = absurd (row_no_unit c.args.stores.now.content c.args.gtin.now c.args.serial.now _ (sym c.requires.place ∙ c.in-Some.is ∙ ap Some c.in-Unit.is))
