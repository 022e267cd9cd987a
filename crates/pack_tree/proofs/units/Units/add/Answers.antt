use Rattle.std.proofs.Common.{◌≡◌, ℕ, ◌<◌, ◌^◌, ◌∷◌, ◌++◌, [], None, Some, length, set, slice_index_or, ap, sym, subst, ◌∙◌, arith}
use Rattle.std.specs.List.{position}
use Rattle.pack_tree.specs.Units.{Shelf, IsShelf, is_coded, batch_in}
use Rattle.pack_tree.proofs.Shelves.{shelf_push}
use Rattle.pack_tree.proofs.units.Units.add.Goals as goal

pub invariant_of-self : goal.invariant_of-self
invariant_of-self c =
    let latest = c.self.inside.latest.items in
    let earlier = c.self.inside.earlier.items in
    let n : c.len-at.result ≡ length c.self.inside.rows.items = omega (arith, c.len-at.ensures, c.self.inside.rows.ok.0) in
    let b : c.batch_of-batch.result ≡ batch_in c.args.unit = c.batch_of-batch.ensures.is in
    let few : batch_in c.args.unit < 2 ^ 16 = subst (λ (k : ℕ). k < 2 ^ 16) b c.batch_of-batch.ensures.few in
    let before : c.link_at-before.result ≡ slice_index_or latest (batch_in c.args.unit) None = c.link_at-before.ensures ∙ (λ z. slice_index_or (c.deref.ensures.value z) (b z) None) in
    subst (λ (k : ℕ). IsShelf c.push_reserved.new.self.items c.insert.new.self k c.set_link_at-2.new.links.items c.set_link_at.new.links.items c.self.inside.room) (sym c.push_reserved.ensures.capacity)
    (shelf_push c.self.inside.rows.items c.push_reserved.new.self.items c.args.unit c.self.inside.table c.insert.new.self _ c.self.inside.room latest earlier c.set_link_at-2.new.links.items c.set_link_at.new.links.items
    c.self.invariant c.push_reserved.ensures.items (c.insert.ensures.hashes ∙ ap (λ (h : ℕ). c.self.inside.table.hashes ++ h ∷ []) c.hash_of.ensures) c.insert.ensures.room
    (subst (λ (v : Shelf). length v.rows < v.room) (sym c.self.view_is) c.requires.room)
    (subst (λ (v : Shelf). position (is_coded c.args.unit.sscc) v.rows ≡ None) (sym c.self.view_is) c.requires.new)
    few (c.set_link_at.ensures ∙ (λ z. set earlier (n z) (before z))) (c.set_link_at-2.ensures ∙ (λ z. set latest (b z) (Some (n z)))))
