use Rattle.std.proofs.Common.{◌≡◌, ℕ, ◌-◌, ◌<◌, List, length, set, Option, Some, IfSome, sym, ap, subst, ◌∙◌}
use Rattle.pack_tree.specs.declared.node.Node.{Node}
use Rattle.pack_tree.specs.declared.link.Link.{Link}
use Rattle.pack_tree.specs.declared.link.Head.{Head}
use Rattle.pack_tree.specs.Pairs.{parent_in, without}
use Rattle.pack_tree.specs.Links.{head_of, link_of, with_next, with_previous, where_none}
use Rattle.pack_tree.specs.Numbers.{pairs_of}
use Rattle.pack_tree.specs.Packing.{Packed, HasRoom, IsPacking}
use Rattle.std.proofs.lemmas.List.{length-set}
use Rattle.pack_tree.proofs.Steps.{previous_room, next_room, counted, take_pairs, take_back, take_gone, packing_take}
use Rattle.pack_tree.proofs.packing.Packing.take.Goals as goal

pub read_head-head-requires : goal.read_head-head-requires
read_head-head-requires c =
    let items = c.self.inside.items.items in
    let units = c.self.inside.units.items in
    let heads = c.self.inside.heads.items in
    let last : ℕ = c.self.inside.last in
    let child = c.args.child in
    let u : ℕ = c.in-Some.parent in
    let f = link_of items units in
    let link = c.read_link-link.result in
    let read : link ≡ f child = c.read_link-link.ensures ∙ (λ z. link_of (c.as_slice.ensures.value z) (c.as_slice-2.ensures.value z) child) in
    let has : parent_in (pairs_of items units) child ≡ Some u = sym (c.self.invariant.linked.parents child) ∙ ap (λ (x : Link). x.parent) (sym read) ∙ sym c.parent.ensures ∙ c.in-Some.is in
    let prev : c.previous-previous.result ≡ (f child).previous = c.previous-previous.ensures ∙ ap (λ (x : Link). x.previous) read in
    let next : c.next-next.result ≡ (f child).next = c.next-next.ensures ∙ ap (λ (x : Link). x.next) read in
    subst (λ (hs : List Head). u < length hs) (sym c.deref.ensures.value) (c.self.invariant.linked.known child u has)

pub set_next-requires : goal.set_next-requires
set_next-requires c =
    let items = c.self.inside.items.items in
    let units = c.self.inside.units.items in
    let heads = c.self.inside.heads.items in
    let last : ℕ = c.self.inside.last in
    let child = c.args.child in
    let u : ℕ = c.in-Some.parent in
    let f = link_of items units in
    let link = c.read_link-link.result in
    let read : link ≡ f child = c.read_link-link.ensures ∙ (λ z. link_of (c.as_slice.ensures.value z) (c.as_slice-2.ensures.value z) child) in
    let has : parent_in (pairs_of items units) child ≡ Some u = sym (c.self.invariant.linked.parents child) ∙ ap (λ (x : Link). x.parent) (sym read) ∙ sym c.parent.ensures ∙ c.in-Some.is in
    let prev : c.previous-previous.result ≡ (f child).previous = c.previous-previous.ensures ∙ ap (λ (x : Link). x.previous) read in
    let next : c.next-next.result ≡ (f child).next = c.next-next.ensures ∙ ap (λ (x : Link). x.next) read in
    subst (λ (o : Option Node). IfSome o (HasRoom (length items) (length units))) (sym prev) (previous_room items units heads last c.self.invariant child u has)

pub set_previous-requires : goal.set_previous-requires
set_previous-requires c =
    let items = c.self.inside.items.items in
    let units = c.self.inside.units.items in
    let heads = c.self.inside.heads.items in
    let last : ℕ = c.self.inside.last in
    let child = c.args.child in
    let u : ℕ = c.in-Some.parent in
    let f = link_of items units in
    let link = c.read_link-link.result in
    let read : link ≡ f child = c.read_link-link.ensures ∙ (λ z. link_of (c.as_slice.ensures.value z) (c.as_slice-2.ensures.value z) child) in
    let has : parent_in (pairs_of items units) child ≡ Some u = sym (c.self.invariant.linked.parents child) ∙ ap (λ (x : Link). x.parent) (sym read) ∙ sym c.parent.ensures ∙ c.in-Some.is in
    let prev : c.previous-previous.result ≡ (f child).previous = c.previous-previous.ensures ∙ ap (λ (x : Link). x.previous) read in
    let next : c.next-next.result ≡ (f child).next = c.next-next.ensures ∙ ap (λ (x : Link). x.next) read in
    subst (λ k. IfSome c.next-next.result (HasRoom k (length c.set_next.new.units.items))) (sym c.set_next.ensures.sizes.0)
    (subst (λ k. IfSome c.next-next.result (HasRoom (length items) k)) (sym c.set_next.ensures.sizes.1)
    (subst (λ (o : Option Node). IfSome o (HasRoom (length items) (length units))) (sym next) (next_room items units heads last c.self.invariant child u has)))

pub overflow_sub-count : goal.overflow_sub-count
overflow_sub-count c =
    let items = c.self.inside.items.items in
    let units = c.self.inside.units.items in
    let heads = c.self.inside.heads.items in
    let last : ℕ = c.self.inside.last in
    let child = c.args.child in
    let u : ℕ = c.in-Some.parent in
    let f = link_of items units in
    let link = c.read_link-link.result in
    let read : link ≡ f child = c.read_link-link.ensures ∙ (λ z. link_of (c.as_slice.ensures.value z) (c.as_slice-2.ensures.value z) child) in
    let has : parent_in (pairs_of items units) child ≡ Some u = sym (c.self.invariant.linked.parents child) ∙ ap (λ (x : Link). x.parent) (sym read) ∙ sym c.parent.ensures ∙ c.in-Some.is in
    let prev : c.previous-previous.result ≡ (f child).previous = c.previous-previous.ensures ∙ ap (λ (x : Link). x.previous) read in
    let next : c.next-next.result ≡ (f child).next = c.next-next.ensures ∙ ap (λ (x : Link). x.next) read in
    let within : u < length heads = c.self.invariant.linked.known child u has in
    let h : c.read_head-head.result ≡ head_of heads u = c.read_head-head.ensures ∙ ap (λ (hs : List Head). head_of hs u) c.deref.ensures.value in
    subst (λ (k : ℕ). 0 < k) (ap (λ (x : Head). x.count) (sym h) ∙ sym c.count-count.ensures) (counted items units heads last c.self.invariant child u has)

pub invariant_of-self : goal.invariant_of-self
invariant_of-self c =
    let items = c.self.inside.items.items in
    let units = c.self.inside.units.items in
    let heads = c.self.inside.heads.items in
    let last : ℕ = c.self.inside.last in
    let child = c.args.child in
    let u : ℕ = c.in-Some.parent in
    let f = link_of items units in
    let link = c.read_link-link.result in
    let read : link ≡ f child = c.read_link-link.ensures ∙ (λ z. link_of (c.as_slice.ensures.value z) (c.as_slice-2.ensures.value z) child) in
    let has : parent_in (pairs_of items units) child ≡ Some u = sym (c.self.invariant.linked.parents child) ∙ ap (λ (x : Link). x.parent) (sym read) ∙ sym c.parent.ensures ∙ c.in-Some.is in
    let prev : c.previous-previous.result ≡ (f child).previous = c.previous-previous.ensures ∙ ap (λ (x : Link). x.previous) read in
    let next : c.next-next.result ≡ (f child).next = c.next-next.ensures ∙ ap (λ (x : Link). x.next) read in
    let within : u < length heads = c.self.invariant.linked.known child u has in
    let h : c.read_head-head.result ≡ head_of heads u = c.read_head-head.ensures ∙ ap (λ (hs : List Head). head_of hs u) c.deref.ensures.value in
    let first : where_none (f child).previous (f child).next (head_of heads u).first ≡ c.where_none-first.result = (λ z. where_none (sym prev z) (sym next z) ((ap (λ (x : Head). x.first) (sym h) ∙ sym c.first.ensures) z)) ∙ sym c.where_none-first.ensures in
    let end : where_none (f child).next (f child).previous (head_of heads u).last ≡ c.where_none-last.result = (λ z. where_none (sym next z) (sym prev z) ((ap (λ (x : Head). x.last) (sym h) ∙ sym c.last.ensures) z)) ∙ sym c.where_none-last.ensures in
    let count : (head_of heads u).count - 1 ≡ c.count-count.result - 1 = ap (λ (k : ℕ). k - 1) (ap (λ (x : Head). x.count) (sym h) ∙ sym c.count-count.ensures) in
    let heads_are : set heads u (record { first = where_none (f child).previous (f child).next (head_of heads u).first; last = where_none (f child).next (f child).previous (head_of heads u).last; count = (head_of heads u).count - 1 }) ≡ c.write_head.new.heads.items
    = (λ z. set heads u (record { first = first z; last = end z; count = count z })) ∙ sym c.write_head.ensures in
    subst (λ (hs : List Head). IsPacking c.set_link.new.items.items c.set_link.new.units.items hs last) heads_are
    (packing_take items units heads last c.self.invariant c.set_next.new.items.items c.set_next.new.units.items c.set_previous.new.items.items c.set_previous.new.units.items c.set_link.new.items.items c.set_link.new.units.items child u has
    (λ n. c.set_next.ensures.links n ∙ (λ z. with_next f (prev z) (next z) n))
    c.set_next.ensures.pairs
    (λ n. c.set_previous.ensures.links n ∙ (λ z. with_previous (link_of c.set_next.new.items.items c.set_next.new.units.items) (next z) (prev z) n))
    c.set_previous.ensures.pairs
    c.set_link.ensures.links
    c.set_link.ensures.pairs
    (c.set_link.ensures.sizes.1 ∙ c.set_previous.ensures.sizes.1 ∙ c.set_next.ensures.sizes.1))

pub returns-clause-pairs : goal.returns-clause-pairs
returns-clause-pairs c =
    let items = c.self.inside.items.items in
    let units = c.self.inside.units.items in
    let heads = c.self.inside.heads.items in
    let last : ℕ = c.self.inside.last in
    let child = c.args.child in
    let u : ℕ = c.in-Some.parent in
    let f = link_of items units in
    let link = c.read_link-link.result in
    let read : link ≡ f child = c.read_link-link.ensures ∙ (λ z. link_of (c.as_slice.ensures.value z) (c.as_slice-2.ensures.value z) child) in
    let has : parent_in (pairs_of items units) child ≡ Some u = sym (c.self.invariant.linked.parents child) ∙ ap (λ (x : Link). x.parent) (sym read) ∙ sym c.parent.ensures ∙ c.in-Some.is in
    let prev : c.previous-previous.result ≡ (f child).previous = c.previous-previous.ensures ∙ ap (λ (x : Link). x.previous) read in
    let next : c.next-next.result ≡ (f child).next = c.next-next.ensures ∙ ap (λ (x : Link). x.next) read in
    take_pairs items units heads last c.self.invariant c.set_next.new.items.items c.set_next.new.units.items c.set_previous.new.items.items c.set_previous.new.units.items c.set_link.new.items.items c.set_link.new.units.items child u has
    (λ n. c.set_next.ensures.links n ∙ (λ z. with_next f (prev z) (next z) n))
    c.set_next.ensures.pairs
    (λ n. c.set_previous.ensures.links n ∙ (λ z. with_previous (link_of c.set_next.new.items.items c.set_next.new.units.items) (next z) (prev z) n))
    c.set_previous.ensures.pairs
    c.set_link.ensures.links
    c.set_link.ensures.pairs
    (c.set_link.ensures.sizes.1 ∙ c.set_previous.ensures.sizes.1 ∙ c.set_next.ensures.sizes.1)
    ∙ ap (λ (v : Packed). without child v.pairs) c.self.view_is

pub returns-clause-was : goal.returns-clause-was
returns-clause-was c =
    let items = c.self.inside.items.items in
    let units = c.self.inside.units.items in
    let heads = c.self.inside.heads.items in
    let last : ℕ = c.self.inside.last in
    let child = c.args.child in
    let u : ℕ = c.in-Some.parent in
    let f = link_of items units in
    let link = c.read_link-link.result in
    let read : link ≡ f child = c.read_link-link.ensures ∙ (λ z. link_of (c.as_slice.ensures.value z) (c.as_slice-2.ensures.value z) child) in
    let has : parent_in (pairs_of items units) child ≡ Some u = sym (c.self.invariant.linked.parents child) ∙ ap (λ (x : Link). x.parent) (sym read) ∙ sym c.parent.ensures ∙ c.in-Some.is in
    let prev : c.previous-previous.result ≡ (f child).previous = c.previous-previous.ensures ∙ ap (λ (x : Link). x.previous) read in
    let next : c.next-next.result ≡ (f child).next = c.next-next.ensures ∙ ap (λ (x : Link). x.next) read in
    sym (ap (λ (v : Packed). v.pairs) c.self.view_is)
    ∙ take_back items units heads last c.self.invariant c.set_next.new.items.items c.set_next.new.units.items c.set_previous.new.items.items c.set_previous.new.units.items c.set_link.new.items.items c.set_link.new.units.items child u has
    (λ n. c.set_next.ensures.links n ∙ (λ z. with_next f (prev z) (next z) n))
    c.set_next.ensures.pairs
    (λ n. c.set_previous.ensures.links n ∙ (λ z. with_previous (link_of c.set_next.new.items.items c.set_next.new.units.items) (next z) (prev z) n))
    c.set_previous.ensures.pairs
    c.set_link.ensures.links
    c.set_link.ensures.pairs
    (c.set_link.ensures.sizes.1 ∙ c.set_previous.ensures.sizes.1 ∙ c.set_next.ensures.sizes.1)
    c.number.result (c.number.ensures ∙ ap (λ (x : Link). x.number) read)

pub returns-clause-gone : goal.returns-clause-gone
returns-clause-gone c =
    let items = c.self.inside.items.items in
    let units = c.self.inside.units.items in
    let heads = c.self.inside.heads.items in
    let last : ℕ = c.self.inside.last in
    let child = c.args.child in
    let u : ℕ = c.in-Some.parent in
    let f = link_of items units in
    let link = c.read_link-link.result in
    let read : link ≡ f child = c.read_link-link.ensures ∙ (λ z. link_of (c.as_slice.ensures.value z) (c.as_slice-2.ensures.value z) child) in
    let has : parent_in (pairs_of items units) child ≡ Some u = sym (c.self.invariant.linked.parents child) ∙ ap (λ (x : Link). x.parent) (sym read) ∙ sym c.parent.ensures ∙ c.in-Some.is in
    let prev : c.previous-previous.result ≡ (f child).previous = c.previous-previous.ensures ∙ ap (λ (x : Link). x.previous) read in
    let next : c.next-next.result ≡ (f child).next = c.next-next.ensures ∙ ap (λ (x : Link). x.next) read in
    take_gone items units heads last c.self.invariant c.set_next.new.items.items c.set_next.new.units.items c.set_previous.new.items.items c.set_previous.new.units.items c.set_link.new.items.items c.set_link.new.units.items child u has
    (λ n. c.set_next.ensures.links n ∙ (λ z. with_next f (prev z) (next z) n))
    c.set_next.ensures.pairs
    (λ n. c.set_previous.ensures.links n ∙ (λ z. with_previous (link_of c.set_next.new.items.items c.set_next.new.units.items) (next z) (prev z) n))
    c.set_previous.ensures.pairs
    c.set_link.ensures.links
    c.set_link.ensures.pairs
    (c.set_link.ensures.sizes.1 ∙ c.set_previous.ensures.sizes.1 ∙ c.set_next.ensures.sizes.1)
    c.previous-previous.result c.next-next.result c.number.result prev next (c.number.ensures ∙ ap (λ (x : Link). x.number) read)
    (c.set_link.ensures.sizes.0 ∙ c.set_previous.ensures.sizes.0 ∙ c.set_next.ensures.sizes.0)
    c.write_head.new.heads.items (ap (λ (hs : List Head). length hs) c.write_head.ensures ∙ length-set heads u _)
