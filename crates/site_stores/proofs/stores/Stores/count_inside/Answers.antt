use Rattle.std.proofs.Common.{ℕ, List, length, sym, ap, ◌∙◌, subst}
use Rattle.std.specs.List.{All}
use Rattle.std.proofs.lemmas.List.{length-map}
use Rattle.epc_urn.specs.declared.epc.Epc.{Epc}
use Rattle.deed_words.specs.World.{inside}
use Rattle.pack_tree.specs.declared.node.Node.{Node}
use Rattle.pack_tree.specs.Packing.{IsThereIn}
use Rattle.pack_tree.specs.Pairs as tree
use Rattle.pack_tree.specs.Units.{is_coded}
use Rattle.batch_book.specs.Content.{Content, content_of, world_in, row_names, unit_codes, node_name}
use Rattle.site_stores.specs.Holding.{Held}
use Rattle.site_stores.proofs.Finding.{within}
use Rattle.site_stores.proofs.Placing.{inside_named, inside_nowhere}
use Rattle.site_stores.proofs.stores.Stores.count_inside.Goals as goal

pub returns-in_default : goal.returns-in_default
returns-in_default c =
    let k : Content = content_of c.self.inside.book c.self.inside.items c.self.inside.tree in
    let there : All (IsThereIn (length k.rows) (length k.units)) k.links = subst (λ (n : ℕ). All (IsThereIn n (length k.units)) k.links) c.self.invariant.counted c.tell_there.ensures in
    sym (ap (λ (h : Held). length (inside (world_in h.content) c.args.sscc.now)) (sym c.self.view_is) ∙ ap (λ (es : List Epc). length es) (inside_nowhere k c.args.sscc.now there (sym c.find.ensures ∙ c.in_default.is)))

pub count-requires : goal.count-requires
count-requires c = within (is_coded c.args.sscc.now) c.self.inside.tree.units c.in-Some.unit (sym c.find.ensures ∙ c.in-Some.is)

pub returns : goal.returns
returns c =
    let k : Content = content_of c.self.inside.book c.self.inside.items c.self.inside.tree in
    let there : All (IsThereIn (length k.rows) (length k.units)) k.links = subst (λ (n : ℕ). All (IsThereIn n (length k.units)) k.links) c.self.invariant.counted c.tell_there.ensures in
    let nodes : List Node = tree.inside c.in-Some.unit k.links in
    c.count.ensures ∙ sym (length-map nodes (node_name (row_names k) (unit_codes k)))
    ∙ sym (ap (λ (h : Held). length (inside (world_in h.content) c.args.sscc.now)) (sym c.self.view_is) ∙ ap (λ (es : List Epc). length es) (inside_named k c.args.sscc.now c.in-Some.unit c.tell_apart.ensures there (sym c.find.ensures ∙ c.in-Some.is)))
