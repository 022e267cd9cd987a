use Rattle.std.proofs.Common.{◌≡◌, ◌-◌, List, length, take, ap, ◌∙◌}
use Rattle.item_store.specs.declared.row.ItemRow.{ItemRow}
use Rattle.item_store.specs.Rows.{fresh_row}
use Rattle.item_store.proofs.Changes.{front_is}
use Rattle.item_store.proofs.laws.add_is_taken_back.Goals as goal

pub returns : goal.returns
returns c =
    let rows : c.remove_last.new.self.rows ≡ c.args.items.now.rows =
    c.remove_last.ensures.rows ∙ ap (λ (xs : List ItemRow). take (length xs - 1) xs) c.add.ensures.rows ∙ front_is c.args.items.now.rows (fresh_row c.args.gtin c.args.serial c.args.batch) in
    let spare : c.remove_last.new.self.spare ≡ c.args.items.now.spare = c.remove_last.ensures.spare ∙ c.add.ensures.spare in
    λ z. record { rows = rows z; spare = spare z }
