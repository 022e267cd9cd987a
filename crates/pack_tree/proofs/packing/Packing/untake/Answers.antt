use Rattle.std.proofs.Common.{◌≡◌, ℕ, ◌+◌, ◌^◌, ◌<◌, List, length, set, Option, Some, IfSome, sym, ap, subst, ◌∙◌, arith, rules}
use Rattle.pack_tree.specs.declared.node.Node.{Node}
use Rattle.pack_tree.specs.declared.link.Link.{Link}
use Rattle.pack_tree.specs.declared.link.Head.{Head}
use Rattle.pack_tree.specs.Links.{head_of, link_of, with_link, where_none}
use Rattle.pack_tree.specs.Numbers.{pairs_of, insert_pair}
use Rattle.pack_tree.specs.Packing.{Packed, HasRoom, IsPacking}
use Rattle.pack_tree.specs.Taking.{IsGone, taken_pair}
use Rattle.pack_tree.specs.Numbers.{all_pairs, pair_of}
use Rattle.pack_tree.specs.Packing.{ChangesPairs}
use Rattle.pack_tree.proofs.Back.{few_inside, few_gone, before_room, after_room, back_pairs, packing_back}
use Rattle.pack_tree.proofs.packing.Packing.untake.Goals as goal

pub read_head-head-requires : goal.read_head-head-requires
read_head-head-requires c =
    let gone : c.args.taken.parent < length c.self.inside.heads.items = (subst (λ (v : Packed). IsGone v c.args.taken) (sym c.self.view_is) c.requires.gone).range in
    subst (λ (hs : List Head). c.args.taken.parent < length hs) (sym c.deref.ensures.value) gone

pub set_next-requires : goal.set_next-requires
set_next-requires c =
    let items = c.self.inside.items.items in
    let units = c.self.inside.units.items in
    let heads = c.self.inside.heads.items in
    let last : ℕ = c.self.inside.last in
    let taken = c.args.taken in
    let child = c.args.taken.child in
    let u : ℕ = c.args.taken.parent in
    let f = link_of items units in
    let gone : IsGone (record { pairs = pairs_of items units; last = last; items = length items; units = length heads }) taken = subst (λ (v : Packed). IsGone v taken) (sym c.self.view_is) c.requires.gone in
    let h : c.read_head-head.result ≡ head_of heads u = c.read_head-head.ensures ∙ ap (λ (hs : List Head). head_of hs u) c.deref.ensures.value in
    subst (λ (o : Option Node). IfSome o (HasRoom (length items) (length units))) (sym (c.previous-previous.ensures ∙ gone.previous))
    (before_room items units heads last c.self.invariant (taken_pair taken) gone.before gone.after gone.alone gone.between)

pub set_previous-requires : goal.set_previous-requires
set_previous-requires c =
    let items = c.self.inside.items.items in
    let units = c.self.inside.units.items in
    let heads = c.self.inside.heads.items in
    let last : ℕ = c.self.inside.last in
    let taken = c.args.taken in
    let child = c.args.taken.child in
    let u : ℕ = c.args.taken.parent in
    let f = link_of items units in
    let gone : IsGone (record { pairs = pairs_of items units; last = last; items = length items; units = length heads }) taken = subst (λ (v : Packed). IsGone v taken) (sym c.self.view_is) c.requires.gone in
    let h : c.read_head-head.result ≡ head_of heads u = c.read_head-head.ensures ∙ ap (λ (hs : List Head). head_of hs u) c.deref.ensures.value in
    subst (λ k. IfSome c.next-next.result (HasRoom k (length c.set_next.new.units.items))) (sym c.set_next.ensures.sizes.0)
    (subst (λ k. IfSome c.next-next.result (HasRoom (length items) k)) (sym c.set_next.ensures.sizes.1)
    (subst (λ (o : Option Node). IfSome o (HasRoom (length items) (length units))) (sym (c.next-next.ensures ∙ gone.next))
    (after_room items units heads last c.self.invariant (taken_pair taken) gone.before gone.after gone.alone gone.between)))

pub set_link-requires : goal.set_link-requires
set_link-requires c =
    let items = c.self.inside.items.items in
    let units = c.self.inside.units.items in
    let heads = c.self.inside.heads.items in
    let last : ℕ = c.self.inside.last in
    let taken = c.args.taken in
    let child = c.args.taken.child in
    let u : ℕ = c.args.taken.parent in
    let f = link_of items units in
    let gone : IsGone (record { pairs = pairs_of items units; last = last; items = length items; units = length heads }) taken = subst (λ (v : Packed). IsGone v taken) (sym c.self.view_is) c.requires.gone in
    let h : c.read_head-head.result ≡ head_of heads u = c.read_head-head.ensures ∙ ap (λ (hs : List Head). head_of hs u) c.deref.ensures.value in
    subst (λ k. HasRoom k (length c.set_previous.new.units.items) child) (sym (c.set_previous.ensures.sizes.0 ∙ c.set_next.ensures.sizes.0))
    (subst (λ k. HasRoom (length items) k child) (sym (c.set_previous.ensures.sizes.1 ∙ c.set_next.ensures.sizes.1 ∙ c.self.invariant.headed)) gone.room)

pub overflow_add-count : goal.overflow_add-count
overflow_add-count c =
    let items = c.self.inside.items.items in
    let units = c.self.inside.units.items in
    let heads = c.self.inside.heads.items in
    let last : ℕ = c.self.inside.last in
    let taken = c.args.taken in
    let child = c.args.taken.child in
    let u : ℕ = c.args.taken.parent in
    let f = link_of items units in
    let gone : IsGone (record { pairs = pairs_of items units; last = last; items = length items; units = length heads }) taken = subst (λ (v : Packed). IsGone v taken) (sym c.self.view_is) c.requires.gone in
    let h : c.read_head-head.result ≡ head_of heads u = c.read_head-head.ensures ∙ ap (λ (hs : List Head). head_of hs u) c.deref.ensures.value in
    let few = few_inside items units heads last c.self.invariant u gone.range in
    let short = few_gone items units heads last c.self.invariant u gone.range gone.few in
    let e : c.count-count.result ≡ (head_of heads u).count = c.count-count.ensures ∙ ap (λ (x : Head). x.count) h in
    let b : last < 2 ^ 64 = search rules in
    omega (arith, few, e, short, b)

pub invariant_of-self : goal.invariant_of-self
invariant_of-self c =
    let items = c.self.inside.items.items in
    let units = c.self.inside.units.items in
    let heads = c.self.inside.heads.items in
    let last : ℕ = c.self.inside.last in
    let taken = c.args.taken in
    let child = c.args.taken.child in
    let u : ℕ = c.args.taken.parent in
    let f = link_of items units in
    let gone : IsGone (record { pairs = pairs_of items units; last = last; items = length items; units = length heads }) taken = subst (λ (v : Packed). IsGone v taken) (sym c.self.view_is) c.requires.gone in
    let h : c.read_head-head.result ≡ head_of heads u = c.read_head-head.ensures ∙ ap (λ (hs : List Head). head_of hs u) c.deref.ensures.value in
    let first : where_none c.previous-previous.result (Some child) (head_of heads u).first ≡ c.where_none-first.result = ap (where_none c.previous-previous.result (Some child)) (ap (λ (x : Head). x.first) (sym h) ∙ sym c.first.ensures) ∙ sym c.where_none-first.ensures in
    let end : where_none c.next-next.result (Some child) (head_of heads u).last ≡ c.where_none-last.result = ap (where_none c.next-next.result (Some child)) (ap (λ (x : Head). x.last) (sym h) ∙ sym c.last.ensures) ∙ sym c.where_none-last.ensures in
    let count : (head_of heads u).count + 1 ≡ c.count-count.result + 1 = ap (λ (k : ℕ). k + 1) (ap (λ (x : Head). x.count) (sym h) ∙ sym c.count-count.ensures) in
    let heads_are : set heads u (record { first = where_none c.previous-previous.result (Some child) (head_of heads u).first; last = where_none c.next-next.result (Some child) (head_of heads u).last; count = (head_of heads u).count + 1 }) ≡ c.write_head.new.heads.items
    = (λ z. set heads u (record { first = first z; last = end z; count = count z })) ∙ sym c.write_head.ensures in
    subst (λ (hs : List Head). IsPacking c.set_link.new.items.items c.set_link.new.units.items hs last) heads_are
    (packing_back items units heads last c.self.invariant c.set_next.new.items.items c.set_next.new.units.items c.set_previous.new.items.items c.set_previous.new.units.items c.set_link.new.items.items c.set_link.new.units.items
    (taken_pair taken) gone.before gone.after c.previous-previous.result c.next-next.result gone.range gone.alone gone.given gone.new gone.few gone.between
    (c.previous-previous.ensures ∙ gone.previous) (c.next-next.ensures ∙ gone.next)
    c.set_next.ensures.links
    c.set_next.ensures.pairs
    c.set_previous.ensures.links
    c.set_previous.ensures.pairs
    (λ n. c.set_link.ensures.links n ∙ ap (λ (x : Link). with_link (link_of c.set_previous.new.items.items c.set_previous.new.units.items) child x n) c.new_link-link.ensures)
    (subst (λ (x : Link). ChangesPairs (all_pairs c.set_previous.new.items.items c.set_previous.new.units.items) (all_pairs c.set_link.new.items.items c.set_link.new.units.items) (pair_of child (link_of c.set_previous.new.items.items c.set_previous.new.units.items child).parent (link_of c.set_previous.new.items.items c.set_previous.new.units.items child).number) (pair_of child x.parent x.number)) c.new_link-link.ensures c.set_link.ensures.pairs)
    (c.set_link.ensures.sizes.1 ∙ c.set_previous.ensures.sizes.1 ∙ c.set_next.ensures.sizes.1))

pub returns-clause-pairs : goal.returns-clause-pairs
returns-clause-pairs c =
    let items = c.self.inside.items.items in
    let units = c.self.inside.units.items in
    let heads = c.self.inside.heads.items in
    let last : ℕ = c.self.inside.last in
    let taken = c.args.taken in
    let child = c.args.taken.child in
    let u : ℕ = c.args.taken.parent in
    let f = link_of items units in
    let gone : IsGone (record { pairs = pairs_of items units; last = last; items = length items; units = length heads }) taken = subst (λ (v : Packed). IsGone v taken) (sym c.self.view_is) c.requires.gone in
    let h : c.read_head-head.result ≡ head_of heads u = c.read_head-head.ensures ∙ ap (λ (hs : List Head). head_of hs u) c.deref.ensures.value in
    back_pairs items units heads last c.self.invariant c.set_next.new.items.items c.set_next.new.units.items c.set_previous.new.items.items c.set_previous.new.units.items c.set_link.new.items.items c.set_link.new.units.items
    (taken_pair taken) gone.before gone.after c.previous-previous.result c.next-next.result gone.range gone.alone gone.given gone.new gone.few gone.between
    (c.previous-previous.ensures ∙ gone.previous) (c.next-next.ensures ∙ gone.next)
    c.set_next.ensures.links
    c.set_next.ensures.pairs
    c.set_previous.ensures.links
    c.set_previous.ensures.pairs
    (λ n. c.set_link.ensures.links n ∙ ap (λ (x : Link). with_link (link_of c.set_previous.new.items.items c.set_previous.new.units.items) child x n) c.new_link-link.ensures)
    (subst (λ (x : Link). ChangesPairs (all_pairs c.set_previous.new.items.items c.set_previous.new.units.items) (all_pairs c.set_link.new.items.items c.set_link.new.units.items) (pair_of child (link_of c.set_previous.new.items.items c.set_previous.new.units.items child).parent (link_of c.set_previous.new.items.items c.set_previous.new.units.items child).number) (pair_of child x.parent x.number)) c.new_link-link.ensures c.set_link.ensures.pairs)
    (c.set_link.ensures.sizes.1 ∙ c.set_previous.ensures.sizes.1 ∙ c.set_next.ensures.sizes.1)
    ∙ ap (λ (v : Packed). insert_pair (taken_pair taken) v.pairs) c.self.view_is
