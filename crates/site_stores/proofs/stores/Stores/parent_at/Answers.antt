use Rattle.std.proofs.Common.{◌≡◌, ℕ, [], length, get_or, Some, None, sym, ap, ◌∙◌, subst}
use Rattle.std.specs.Prelude.{option_map}
use Rattle.std.specs.List.{All}
use Rattle.deed_words.specs.World.{parent}
use Rattle.pack_tree.specs.Packing.{IsThereIn}
use Rattle.pack_tree.specs.Units.{code_in}
use Rattle.batch_book.specs.Content.{Content, content_of, world_in, unit_codes}
use Rattle.site_stores.specs.Holding.{Held}
use Rattle.site_stores.specs.Places.{place_of}
use Rattle.site_stores.proofs.Finding.{part_there}
use Rattle.site_stores.proofs.Placing.{parent_named, parent_nowhere, parent_there, parents_in}
use Rattle.site_stores.proofs.stores.Stores.parent_at.Goals as goal

pub returns-in_default : goal.returns-in_default
returns-in_default c =
    let k : Content = content_of c.self.inside.book c.self.inside.items c.self.inside.tree in
    let there : All (IsThereIn (length k.rows) (length k.units)) k.links = subst (λ (n : ℕ). All (IsThereIn n (length k.units)) k.links) c.self.invariant.counted c.tell_there.ensures in
    let e : place_of k.rows k.units c.args.name.now ≡ None = ap (λ (h : Held). place_of h.content.rows h.content.units c.args.name.now) c.self.view_is ∙ sym c.requires.place ∙ c.in_default.is in
    sym (ap (λ (h : Held). parent (world_in h.content) c.args.name.now) (sym c.self.view_is) ∙ parent_nowhere k c.args.name.now there e)

pub returns-in_default-parent_of : goal.returns-in_default-parent_of
returns-in_default-parent_of c =
    let k : Content = content_of c.self.inside.book c.self.inside.items c.self.inside.tree in
    let there : All (IsThereIn (length k.rows) (length k.units)) k.links = subst (λ (n : ℕ). All (IsThereIn n (length k.units)) k.links) c.self.invariant.counted c.tell_there.ensures in
    let e : place_of k.rows k.units c.args.name.now ≡ Some c.in-Some.node = ap (λ (h : Held). place_of h.content.rows h.content.units c.args.name.now) c.self.view_is ∙ sym c.requires.place ∙ c.in-Some.is in
    sym (ap (λ (h : Held). parent (world_in h.content) c.args.name.now) (sym c.self.view_is) ∙ parent_named k c.args.name.now c.in-Some.node c.tell_apart.ensures c.tell_apart-2.ensures there e
    ∙ ap (option_map (λ (at : ℕ). get_or (unit_codes k) at [])) (sym c.parent_of.ensures ∙ c.in_default-parent_of.is))

pub unit-requires : goal.unit-requires
unit-requires c =
    let k : Content = content_of c.self.inside.book c.self.inside.items c.self.inside.tree in
    let there : All (IsThereIn (length k.rows) (length k.units)) k.links = subst (λ (n : ℕ). All (IsThereIn n (length k.units)) k.links) c.self.invariant.counted c.tell_there.ensures in
    parent_there (length k.units) k.links c.in-Some.node c.in-Some-parent_of.unit (sym c.parent_of.ensures ∙ c.in-Some-parent_of.is) (parents_in k there)

pub returns : goal.returns
returns c =
    let k : Content = content_of c.self.inside.book c.self.inside.items c.self.inside.tree in
    let there : All (IsThereIn (length k.rows) (length k.units)) k.links = subst (λ (n : ℕ). All (IsThereIn n (length k.units)) k.links) c.self.invariant.counted c.tell_there.ensures in
    let e : place_of k.rows k.units c.args.name.now ≡ Some c.in-Some.node = ap (λ (h : Held). place_of h.content.rows h.content.units c.args.name.now) c.self.view_is ∙ sym c.requires.place ∙ c.in-Some.is in
    ap Some (sym (part_there code_in k.units c.in-Some-parent_of.unit c.unit.result [] c.unit.ensures))
    ∙ sym (ap (λ (h : Held). parent (world_in h.content) c.args.name.now) (sym c.self.view_is) ∙ parent_named k c.args.name.now c.in-Some.node c.tell_apart.ensures c.tell_apart-2.ensures there e
    ∙ ap (option_map (λ (at : ℕ). get_or (unit_codes k) at [])) (sym c.parent_of.ensures ∙ c.in-Some-parent_of.is))
