use Rattle.std.proofs.Common.{◌<◌, sym, ap, ◌∙◌, Some, length}
use Rattle.deed_words.specs.World.{row_of}
use Rattle.batch_book.specs.Content.{Content, content_of, world_in}
use Rattle.site_stores.specs.Holding.{Held}
use Rattle.site_stores.proofs.Finding.{no_row, the_row, at_place, within}
use Rattle.site_stores.proofs.stores.Stores.row.Goals as goal
use Rattle.item_store.specs.declared.row.ItemRow.{ItemRow}

pub returns-in_default : goal.returns-in_default
returns-in_default c =
    let k : Content = content_of c.self.inside.book c.self.inside.items c.self.inside.tree in
    sym (ap (λ (h : Held). row_of (world_in h.content) c.args.gtin.now c.args.serial.now) (sym c.self.view_is) ∙ no_row k c.args.gtin.now c.args.serial.now (sym c.find.ensures.is ∙ c.in_default.is))

pub row-row-requires : goal.row-row-requires
row-row-requires c = within _ c.self.inside.items.rows c.in-Some.item (sym c.find.ensures.is ∙ c.in-Some.is)

pub told_row-requires : goal.told_row-requires
told_row-requires c = at_place (λ (row : ItemRow). row.batch < length c.self.inside.book.batches) c.self.inside.items.rows c.in-Some.item c.row-row.result c.row-row.ensures.is c.self.invariant.rows

pub returns : goal.returns
returns c =
    let k : Content = content_of c.self.inside.book c.self.inside.items c.self.inside.tree in
    ap Some c.told_row.ensures
    ∙ sym (ap (λ (h : Held). row_of (world_in h.content) c.args.gtin.now c.args.serial.now) (sym c.self.view_is) ∙ the_row k c.args.gtin.now c.args.serial.now c.in-Some.item c.row-row.result (sym c.find.ensures.is ∙ c.in-Some.is) c.row-row.ensures.is)
