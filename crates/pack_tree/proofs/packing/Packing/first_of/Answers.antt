use Rattle.pack_tree.specs.declared.node.Node.{Node}
use Rattle.std.proofs.Common.{Option, ◌≡◌, ℕ, ◌<◌, List, length, sym, ap, subst, ◌∙◌}
use Rattle.pack_tree.specs.declared.link.Head.{Head}
use Rattle.pack_tree.specs.Children.{from_node, IsWithin}
use Rattle.pack_tree.specs.Pairs.{inside}
use Rattle.pack_tree.specs.Links.{head_of, link_of}
use Rattle.pack_tree.specs.Numbers.{pairs_of}
use Rattle.pack_tree.specs.Packing.{Packed}
use Rattle.pack_tree.proofs.Iteration.{from_first, first_within}
use Rattle.pack_tree.proofs.packing.Packing.first_of.Goals as goal

pub returns-clause-all : goal.returns-clause-all
returns-clause-all c =
    let heads = c.self.inside.heads.items in
    let u : ℕ = c.args.parent in
    let within : u < length heads = subst (λ (v : Packed). u < v.units) (sym c.self.view_is) c.requires in
    let h : head_of heads u ≡ c.read_head.result = ap (λ (hs : List Head). head_of hs u) (sym c.deref.ensures.value) ∙ sym c.read_head.ensures in
    let own : (head_of heads u).first ≡ c.first.result = ap (λ (x : Head). x.first) h ∙ sym c.first.ensures in
    subst (λ (v : Packed). from_node c.first.result (inside u v.pairs) ≡ inside u v.pairs) c.self.view_is
    (subst (λ (x : Option Node). from_node x (inside u (pairs_of c.self.inside.items.items c.self.inside.units.items)) ≡ inside u (pairs_of c.self.inside.items.items c.self.inside.units.items)) own
    (from_first (link_of c.self.inside.items.items c.self.inside.units.items) _ _ _ _ (c.self.invariant.linked.chains u within)))

pub returns-clause-within : goal.returns-clause-within
returns-clause-within c =
    let heads = c.self.inside.heads.items in
    let u : ℕ = c.args.parent in
    let within : u < length heads = subst (λ (v : Packed). u < v.units) (sym c.self.view_is) c.requires in
    let h : head_of heads u ≡ c.read_head.result = ap (λ (hs : List Head). head_of hs u) (sym c.deref.ensures.value) ∙ sym c.read_head.ensures in
    let own : (head_of heads u).first ≡ c.first.result = ap (λ (x : Head). x.first) h ∙ sym c.first.ensures in
    subst (λ (v : Packed). IsWithin c.first.result (inside u v.pairs)) c.self.view_is
    (subst (λ (x : Option Node). IsWithin x (inside u (pairs_of c.self.inside.items.items c.self.inside.units.items))) own
    (first_within (link_of c.self.inside.items.items c.self.inside.units.items) _ _ _ _ (c.self.invariant.linked.chains u within)))
