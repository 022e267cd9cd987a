use Rattle.std.proofs.Common.{◌≡◌, ℕ, ◌<◌, ◌^◌, None, length, set, slice_index_or, sym, subst, ◌∙◌, arith}
use Rattle.pack_tree.specs.Units.{IsShelf, batch_in}
use Rattle.pack_tree.proofs.Shelves.{shelf_pop}
use Rattle.pack_tree.proofs.units.Units.remove_last.Goals as goal

pub invariant_of-self : goal.invariant_of-self
invariant_of-self c =
    let latest = c.self.inside.latest.items in
    let earlier = c.self.inside.earlier.items in
    let rows = c.take_last-unit.new.self.items in
    let n : c.len.result ≡ length rows = omega (arith, c.len.ensures, c.take_last-unit.new.self.ok.0) in
    let b : c.batch_of.result ≡ batch_in c.take_last-unit.result = c.batch_of.ensures.is in
    let few : batch_in c.take_last-unit.result < 2 ^ 16 = subst (λ (k : ℕ). k < 2 ^ 16) b c.batch_of.ensures.few in
    let before : c.link_at-before.result ≡ slice_index_or earlier (length rows) None = c.link_at-before.ensures ∙ (λ z. slice_index_or (c.deref.ensures.value z) (n z) None) in
    subst (λ (k : ℕ). IsShelf rows c.remove_last.new.self k c.set_link_at.new.links.items earlier c.self.inside.room) (sym c.take_last-unit.ensures.capacity)
    (shelf_pop c.self.inside.rows.items rows c.take_last-unit.result c.self.inside.table c.remove_last.new.self _ c.self.inside.room latest earlier c.set_link_at.new.links.items
    c.self.invariant c.take_last-unit.ensures.items c.remove_last.ensures.hashes c.remove_last.ensures.room few (c.set_link_at.ensures ∙ (λ z. set latest (b z) (before z))))
