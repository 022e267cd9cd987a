use Rattle.std.proofs.Common.{◌≡◌, ℕ, ◌+◌, ◌^◌, ◌<◌, ◌∷◌, ◌++◌, [], List, length, set, Option, None, Some, IfSome, sym, ap, subst, ◌∙◌, arith}
use Rattle.pack_tree.specs.declared.node.Node.{Node}
use Rattle.pack_tree.specs.declared.link.Link.{Link}
use Rattle.pack_tree.specs.declared.link.Head.{Head}
use Rattle.pack_tree.specs.Pairs.{parent_in}
use Rattle.pack_tree.specs.Links.{head_of, link_of, with_link, with_next, where_none}
use Rattle.pack_tree.specs.Numbers.{pairs_of}
use Rattle.pack_tree.specs.Packing.{Packed, HasRoom, IsPacking, put_pair}
use Rattle.pack_tree.specs.Numbers.{all_pairs, pair_of}
use Rattle.pack_tree.specs.Packing.{ChangesPairs}
use Rattle.pack_tree.proofs.Steps.{last_room, put_pairs, packing_put}
use Rattle.pack_tree.proofs.Back.{few_inside}
use Rattle.pack_tree.proofs.packing.Packing.put.Goals as goal

pub set_next-requires : goal.set_next-requires
set_next-requires c =
    let items = c.self.inside.items.items in
    let units = c.self.inside.units.items in
    let heads = c.self.inside.heads.items in
    let last : ℕ = c.self.inside.last in
    let child = c.args.child in
    let u : ℕ = c.args.parent in
    let within : u < length heads = subst (λ (v : Packed). u < v.units) (sym c.self.view_is) c.requires.range in
    let h : c.read_head-head.result ≡ head_of heads u = c.read_head-head.ensures ∙ ap (λ (hs : List Head). head_of hs u) c.deref.ensures.value in
    subst (λ (o : Option Node). IfSome o (HasRoom (length items) (length units))) (ap (λ (x : Head). x.last) (sym h) ∙ sym c.last.ensures)
    (last_room items units heads last c.self.invariant u within)

pub overflow_add-count : goal.overflow_add-count
overflow_add-count c =
    let items = c.self.inside.items.items in
    let units = c.self.inside.units.items in
    let heads = c.self.inside.heads.items in
    let last : ℕ = c.self.inside.last in
    let child = c.args.child in
    let u : ℕ = c.args.parent in
    let within : u < length heads = subst (λ (v : Packed). u < v.units) (sym c.self.view_is) c.requires.range in
    let h : c.read_head-head.result ≡ head_of heads u = c.read_head-head.ensures ∙ ap (λ (hs : List Head). head_of hs u) c.deref.ensures.value in
    let few = few_inside items units heads last c.self.invariant u within in
    let e : c.count-count.result ≡ (head_of heads u).count = c.count-count.ensures ∙ ap (λ (x : Head). x.count) h in
    let l : last + 1 < 2 ^ 64 = subst (λ (v : Packed). v.last + 1 < 2 ^ 64) (sym c.self.view_is) c.requires.last in
    omega (arith, few, e, l)

pub invariant_of-self : goal.invariant_of-self
invariant_of-self c =
    let items = c.self.inside.items.items in
    let units = c.self.inside.units.items in
    let heads = c.self.inside.heads.items in
    let last : ℕ = c.self.inside.last in
    let child = c.args.child in
    let u : ℕ = c.args.parent in
    let within : u < length heads = subst (λ (v : Packed). u < v.units) (sym c.self.view_is) c.requires.range in
    let h : c.read_head-head.result ≡ head_of heads u = c.read_head-head.ensures ∙ ap (λ (hs : List Head). head_of hs u) c.deref.ensures.value in
    let new : parent_in (pairs_of items units) child ≡ None = subst (λ (v : Packed). parent_in v.pairs child ≡ None) (sym c.self.view_is) c.requires.alone in
    let end : (head_of heads u).last ≡ c.last.result = ap (λ (x : Head). x.last) (sym h) ∙ sym c.last.ensures in
    let end2 : (head_of heads u).last ≡ c.last-2.result = ap (λ (x : Head). x.last) (sym h) ∙ sym c.last-2.ensures in
    let first : where_none (head_of heads u).last (Some child) (head_of heads u).first ≡ c.where_none-first.result =
    (λ z. where_none ((ap (λ (x : Head). x.last) (sym h) ∙ sym c.last-3.ensures) z) (Some child) ((ap (λ (x : Head). x.first) (sym h) ∙ sym c.first.ensures) z)) ∙ sym c.where_none-first.ensures in
    let count : (head_of heads u).count + 1 ≡ c.count-count.result + 1 = ap (λ (k : ℕ). k + 1) (ap (λ (x : Head). x.count) (sym h) ∙ sym c.count-count.ensures) in
    let heads_are : set heads u (record { first = where_none (head_of heads u).last (Some child) (head_of heads u).first; last = Some child; count = (head_of heads u).count + 1 }) ≡ c.write_head.new.heads.items
    = (λ z. set heads u (record { first = first z; last = Some child; count = count z })) ∙ sym c.write_head.ensures in
    subst (λ (hs : List Head). IsPacking c.set_link.new.items.items c.set_link.new.units.items hs (last + 1)) heads_are
    (packing_put items units heads last c.self.invariant c.set_next.new.items.items c.set_next.new.units.items c.set_link.new.items.items c.set_link.new.units.items child u within new
    (λ n. c.set_next.ensures.links n ∙ ap (λ (o : Option Node). with_next (link_of items units) o (Some child) n) (sym end))
    c.set_next.ensures.pairs
    (λ n. c.set_link.ensures.links n ∙ ap (λ (x : Link). with_link (link_of c.set_next.new.items.items c.set_next.new.units.items) child x n) (c.new_link-link.ensures ∙ (λ z. record { parent = Some u; previous = sym end2 z; next = None; number = last + 1 })))
    (subst (λ (x : Link). ChangesPairs (all_pairs c.set_next.new.items.items c.set_next.new.units.items) (all_pairs c.set_link.new.items.items c.set_link.new.units.items) (pair_of child (link_of c.set_next.new.items.items c.set_next.new.units.items child).parent (link_of c.set_next.new.items.items c.set_next.new.units.items child).number) (pair_of child x.parent x.number)) c.new_link-link.ensures c.set_link.ensures.pairs)
    (c.set_link.ensures.sizes.1 ∙ c.set_next.ensures.sizes.1))

pub returns-clause-pairs : goal.returns-clause-pairs
returns-clause-pairs c =
    let items = c.self.inside.items.items in
    let units = c.self.inside.units.items in
    let heads = c.self.inside.heads.items in
    let last : ℕ = c.self.inside.last in
    let child = c.args.child in
    let u : ℕ = c.args.parent in
    let within : u < length heads = subst (λ (v : Packed). u < v.units) (sym c.self.view_is) c.requires.range in
    let h : c.read_head-head.result ≡ head_of heads u = c.read_head-head.ensures ∙ ap (λ (hs : List Head). head_of hs u) c.deref.ensures.value in
    let new : parent_in (pairs_of items units) child ≡ None = subst (λ (v : Packed). parent_in v.pairs child ≡ None) (sym c.self.view_is) c.requires.alone in
    let end : (head_of heads u).last ≡ c.last.result = ap (λ (x : Head). x.last) (sym h) ∙ sym c.last.ensures in
    let end2 : (head_of heads u).last ≡ c.last-2.result = ap (λ (x : Head). x.last) (sym h) ∙ sym c.last-2.ensures in
    put_pairs items units heads last c.self.invariant c.set_next.new.items.items c.set_next.new.units.items c.set_link.new.items.items c.set_link.new.units.items child u within new
    (λ n. c.set_next.ensures.links n ∙ ap (λ (o : Option Node). with_next (link_of items units) o (Some child) n) (sym end))
    c.set_next.ensures.pairs
    (λ n. c.set_link.ensures.links n ∙ ap (λ (x : Link). with_link (link_of c.set_next.new.items.items c.set_next.new.units.items) child x n) (c.new_link-link.ensures ∙ (λ z. record { parent = Some u; previous = sym end2 z; next = None; number = last + 1 })))
    (subst (λ (x : Link). ChangesPairs (all_pairs c.set_next.new.items.items c.set_next.new.units.items) (all_pairs c.set_link.new.items.items c.set_link.new.units.items) (pair_of child (link_of c.set_next.new.items.items c.set_next.new.units.items child).parent (link_of c.set_next.new.items.items c.set_next.new.units.items child).number) (pair_of child x.parent x.number)) c.new_link-link.ensures c.set_link.ensures.pairs)
    (c.set_link.ensures.sizes.1 ∙ c.set_next.ensures.sizes.1)
    ∙ ap (λ (v : Packed). v.pairs ++ put_pair child u (v.last + 1) ∷ []) c.self.view_is
