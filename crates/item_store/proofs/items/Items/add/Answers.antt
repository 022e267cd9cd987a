use Rattle.std.proofs.Common.{◌≡◌, false, ◌-◌, ◌+◌, ◌∷◌, ◌++◌, [], length, refl, sym, ap, subst, ◌∙◌, arith}
use Rattle.std.specs.List.{All}
use Rattle.item_store.specs.Rows.{Store, is_named}
use Rattle.item_store.specs.Cells.{raised}
use Rattle.item_store.specs.Store.{back_to}
use Rattle.item_store.proofs.Changes.{store_push}
use Rattle.item_store.proofs.items.Items.add.Goals as goal

pub invariant_of-self : goal.invariant_of-self
invariant_of-self c =
    let some : c.self.inside.spare - 1 + 1 ≡ c.self.inside.spare = omega (arith, ap (λ (v : Store). v.spare) c.self.view_is) in
    let n : c.len-item.result ≡ length c.self.inside.rows.items = omega (arith, c.len-item.ensures, c.self.inside.rows.ok.0) in
    store_push _ _ _ _ _ _ _ _ _ _ _ _ _ _ _ _ _ c.self.invariant c.push_reserved.ensures.items (c.insert.ensures.hashes ∙ ap (λ h. c.self.inside.table.hashes ++ h ∷ []) c.hash_of.ensures)
    c.insert.ensures.room (c.push.ensures.groups ∙ ap (λ b. c.self.inside.chains.groups ++ b ∷ []) c.batch.view_is) c.push.ensures.room c.push_reserved.ensures.capacity some (c.raise.ensures ∙ ap (raised c.self.inside.by_state.items) c.state_cell.ensures)
    (c.raise-2.ensures ∙ ap (raised c.self.inside.by_line.items) c.line_cell.ensures)
    (subst (λ (v : Store). All (λ r. is_named c.args.gtin c.args.serial r ≡ false) v.rows) (sym c.self.view_is) c.requires.new) (λ _. refl, λ _. refl)
    (c.back_to.ensures ∙ ap (back_to c.self.inside.cursors.items c.args.batch) n)
