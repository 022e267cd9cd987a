-- A pair put back where it was.
use Rattle.std.proofs.Common.{◌≡◌, ℕ, ◌+◌, ◌<◌, Bool, true, false, cond, eqb, ltb, List, [], ◌∷◌, ◌++◌, length, set, Option, None, Some, refl, sym, ap, subst, ◌∙◌, inl, inr, arith, true≢false}
use Rattle.std.proofs.lemmas.List.{length-set, length-append, get_or-set_same, get_or-set_other}
use native.Mathlib.Decide.{ℕ_discrete}
use Rattle.pack_tree.specs.declared.node.Node.{Node}
use Rattle.pack_tree.specs.declared.link.Pair.{Pair}
use Rattle.pack_tree.specs.declared.link.Link.{Link}
use Rattle.pack_tree.specs.declared.link.Head.{Head}
use Rattle.pack_tree.specs.Pairs.{same_node, parent_in, inside, IsOnce}
use Rattle.pack_tree.specs.Numbers.{insert_pair}
use Rattle.pack_tree.specs.Taking.{first_of, last_of}
use Rattle.pack_tree.specs.Links.{empty_head, head_of, Leads, with_link, with_next, with_previous, where_none, AreLinked}
use Rattle.pack_tree.specs.Children.{In}
use Rattle.pack_tree.proofs.Nodes.{node_cases, node_is, same_no, same_yes, Distinct}
use Rattle.pack_tree.proofs.Chains.{leads_same, leads_append, leads_split, leads_front, leads_rest, last_in, in_left, in_right, parts_apart, distinct_left, distinct_right}
use Rattle.pack_tree.proofs.PairLists.{inside_parent, inside_distinct, inside_without, drop_node, drop_between}
use Rattle.pack_tree.proofs.Sorting.{without_insert}
use Rattle.pack_tree.proofs.Ends.{leads_last, leads_first}
use Rattle.pack_tree.proofs.Writes.{link_own, link_other, next_other, next_own, previous_other, previous_own, next_parent, previous_parent}
use Rattle.pack_tree.proofs.Changes.{eqb_no, one_unit}

some_none : (u : ℕ) → Some u ≡ None → ⊥
some_none u e = cc

head_other : (q : Pair) (ps : List Pair) (c : Node) → parent_in (q ∷ ps) c ≡ None → (same_node q.child c ≡ false) × (parent_in ps c ≡ None)
head_other q ps c e = cases (same_node q.child c) refl e
  where
    cases : (t : Bool) → same_node q.child c ≡ t → cond t (Some q.parent) (parent_in ps c) ≡ None → (same_node q.child c ≡ false) × (parent_in ps c ≡ None)
    cases true f k = absurd (some_none q.parent k)
    cases false f k = (f, k)

-- the parent after one more pair anywhere, whose child had none
pub parent_insert : (p : Pair) (ps : List Pair) (n : Node) → parent_in ps p.child ≡ None → parent_in (insert_pair p ps) n ≡ cond (same_node p.child n) (Some p.parent) (parent_in ps n)
parent_insert p [] n e = refl
parent_insert p (q ∷ ps) n e = cases (parent_insert p ps n (head_other q ps p.child e).1) (ltb p.number q.number)
  where
    inner : (a : Bool) → same_node q.child n ≡ a → (b : Bool) → same_node p.child n ≡ b → cond a (Some q.parent) (cond b (Some p.parent) (parent_in ps n)) ≡ cond b (Some p.parent) (cond a (Some q.parent) (parent_in ps n))
    inner true f true g = absurd (true≢false (sym (same_yes q.child p.child (node_is q.child n f ∙ sym (node_is p.child n g))) ∙ (head_other q ps p.child e).0))
    inner true f false g = refl
    inner false f true g = refl
    inner false f false g = refl

    cases : parent_in (insert_pair p ps) n ≡ cond (same_node p.child n) (Some p.parent) (parent_in ps n) → (t : Bool) → parent_in (cond t (p ∷ q ∷ ps) (q ∷ insert_pair p ps)) n ≡ cond (same_node p.child n) (Some p.parent) (parent_in (q ∷ ps) n)
    cases ih true = refl
    cases ih false = ap (λ o. cond (same_node q.child n) (Some q.parent) o) ih ∙ inner (same_node q.child n) refl (same_node p.child n) refl

pub once_in : (p : Pair) (ps : List Pair) → IsOnce ps → parent_in ps p.child ≡ None → IsOnce (insert_pair p ps)
once_in p [] o e = (refl, tt)
once_in p (q ∷ ps) o e = cases (once_in p ps o.1 (head_other q ps p.child e).1) (ltb p.number q.number)
  where
    apart : p.child ≡ q.child → ⊥
    apart h = true≢false (sym (same_yes q.child p.child (sym h)) ∙ (head_other q ps p.child e).0)

    cases : IsOnce (insert_pair p ps) → (t : Bool) → IsOnce (cond t (p ∷ q ∷ ps) (q ∷ insert_pair p ps))
    cases ih true = (e, o)
    cases ih false = (parent_insert p ps q.child (head_other q ps p.child e).1 ∙ ap (λ b. cond b (Some p.parent) (parent_in ps q.child)) (same_no p.child q.child apart) ∙ o.0, ih)

pub inside_insert : (v : ℕ) (p : Pair) (ps : List Pair) → (p.parent ≡ v → ⊥) → inside v (insert_pair p ps) ≡ inside v ps
inside_insert v p [] ne = ap (λ b. cond b (p.child ∷ []) []) (eqb_no p.parent v ne)
inside_insert v p (q ∷ ps) ne = cases (inside_insert v p ps ne) (ltb p.number q.number)
  where
    cases : inside v (insert_pair p ps) ≡ inside v ps → (t : Bool) → inside v (cond t (p ∷ q ∷ ps) (q ∷ insert_pair p ps)) ≡ inside v (q ∷ ps)
    cases ih true = ap (λ b. cond b (p.child ∷ inside v (q ∷ ps)) (inside v (q ∷ ps))) (eqb_no p.parent v ne)
    cases ih false = ap (λ ns. cond (eqb q.parent v) (q.child ∷ ns) ns) ih

pub first_in : (ys : List Node) (a : Option Node) (n : Node) → a ≡ first_of ys → a ≡ Some n → In n ys
first_in [] a n h k = absurd (none_no (sym h ∙ k))
  where
    none_no : None ≡ Some n → ⊥
    none_no z = cc
first_in (y ∷ ys) a n h k = let z : Some y ≡ Some n = sym h ∙ k in let w : y ≡ n = cc in inl w

pub last_is_in : (xs : List Node) (n : Node) → last_of xs ≡ Some n → In n xs
last_is_in [] n e = absurd (none_no e)
  where
    none_no : None ≡ Some n → ⊥
    none_no z = cc
last_is_in (x ∷ []) n e = let w : x ≡ n = cc in inl w
last_is_in (x ∷ y ∷ xs) n e = inr (last_is_in (y ∷ xs) n e)

pub parts_of : (ps : List Pair) (p : Pair) (xs ys : List Node) → IsOnce ps → parent_in ps p.child ≡ None → inside p.parent (insert_pair p ps) ≡ xs ++ p.child ∷ ys → inside p.parent ps ≡ xs ++ ys
parts_of ps p xs ys once alone between =
    ap (inside p.parent) (sym (without_insert p ps alone)) ∙ inside_without p.child p.parent (insert_pair p ps) ∙ ap (drop_node p.child) between
    ∙ drop_between p.child xs ys (subst Distinct between (inside_distinct p.parent (insert_pair p ps) (once_in p ps once alone)))

module _ (f : Node → Link) (heads : List Head) (ps : List Pair) (p : Pair) (xs ys : List Node) (prev next : Option Node) (s : AreLinked f heads ps) (within : p.parent < length heads)
    (alone : parent_in ps p.child ≡ None) (between : inside p.parent (insert_pair p ps) ≡ xs ++ p.child ∷ ys) (prev_is : prev ≡ last_of xs) (next_is : next ≡ first_of ys) where
  abbrev pub back_link : Link
  back_link = record { parent = Some p.parent; previous = prev; next = next; number = p.number }

  abbrev pub back_links : Node → Link
  back_links = with_link (with_previous (with_next f prev (Some p.child)) next (Some p.child)) p.child back_link

  abbrev pub held : Head
  held = head_of heads p.parent

  abbrev pub back_head : Head
  back_head = record { first = where_none prev (Some p.child) held.first; last = where_none next (Some p.child) held.last; count = held.count + 1 }

  again : IsOnce (insert_pair p ps)
  again = once_in p ps s.once alone

  whole : Distinct (xs ++ p.child ∷ ys)
  whole = subst Distinct between (inside_distinct p.parent (insert_pair p ps) again)

  split : inside p.parent ps ≡ xs ++ ys
  split = ap (inside p.parent) (sym (without_insert p ps alone)) ∙ inside_without p.child p.parent (insert_pair p ps) ∙ ap (drop_node p.child) between ∙ drop_between p.child xs ys whole

  both : Distinct (xs ++ ys)
  both = subst Distinct split (inside_distinct p.parent ps s.once)

  chain : Leads f None held.first (xs ++ ys) held.last None
  chain = subst (λ ns. Leads f None held.first ns held.last None) split (s.chains p.parent within)

  front_rest : Leads f None held.first xs prev next × Leads f prev next ys held.last None
  front_rest =
      let r = leads_split f None held.first xs ys held.last None chain in
      let a : r.0 ≡ prev = sym (leads_last f held.first xs r.0 r.1 r.2) ∙ sym prev_is in
      let b : r.1 ≡ next = leads_first f r.0 r.1 ys held.last r.3 ∙ sym next_is in (
        subst (λ t. Leads f None held.first xs prev t) b (subst (λ l. Leads f None held.first xs l r.1) a r.2),
        subst (λ t. Leads f prev t ys held.last None) b (subst (λ l. Leads f l r.1 ys held.last None) a r.3),
      )

  before_in : (n : Node) → prev ≡ Some n → In n xs
  before_in n e = last_in f held.first xs prev next n front_rest.0 e

  after_in : (n : Node) → next ≡ Some n → In n ys
  after_in n e = first_in ys next n next_is e

  left_not_c : (n : Node) → In n xs → p.child ≡ n → ⊥
  left_not_c n h e = parts_apart n xs (p.child ∷ ys) whole h (inl e)

  right_not_c : (n : Node) → In n ys → p.child ≡ n → ⊥
  right_not_c n h e = (distinct_right xs (p.child ∷ ys) whole).0 (subst (λ x. In x ys) (sym e) h)

  left_not_right : (n : Node) → In n xs → In n ys → ⊥
  left_not_right n h k = parts_apart n xs ys both h k

  back_other : (n : Node) → (p.child ≡ n → ⊥) → (prev ≡ Some n → ⊥) → (next ≡ Some n → ⊥) → back_links n ≡ f n
  back_other n ne nl nr =
      link_other (with_previous (with_next f prev (Some p.child)) next (Some p.child)) p.child n back_link ne
      ∙ previous_other (with_next f prev (Some p.child)) next (Some p.child) n nr ∙ next_other f prev (Some p.child) n nl

  own : back_links p.child ≡ back_link
  own = link_own (with_previous (with_next f prev (Some p.child)) next (Some p.child)) p.child back_link

  back_parents : (n : Node) → (back_links n).parent ≡ parent_in (insert_pair p ps) n
  back_parents n = elim (node_cases p.child n) [
    | inl e ↦ ap (λ (x : Link). x.parent) (ap back_links (sym e) ∙ own) ∙ sym (parent_insert p ps n alone ∙ ap (λ b. cond b (Some p.parent) (parent_in ps n)) (same_yes p.child n e))
    | inr ne ↦
        ap (λ (x : Link). x.parent) (link_other (with_previous (with_next f prev (Some p.child)) next (Some p.child)) p.child n back_link ne)
        ∙ previous_parent (with_next f prev (Some p.child)) next (Some p.child) n ∙ next_parent f prev (Some p.child) n ∙ s.parents n
        ∙ sym (parent_insert p ps n alone ∙ ap (λ b. cond b (Some p.parent) (parent_in ps n)) (same_no p.child n ne))
  ]

  back_front : Leads back_links None back_head.first xs prev (Some p.child)
  back_front =
      leads_front f back_links (Some p.child) held.first xs prev next
      (λ n i l. back_other n (left_not_c n i) l (λ r. left_not_right n i (after_in n r)))
      (λ n l i.
      let e : back_links n ≡ record (f n) { next = Some p.child } =
      link_other (with_previous (with_next f prev (Some p.child)) next (Some p.child)) p.child n back_link (left_not_c n i)
      ∙ previous_other (with_next f prev (Some p.child)) next (Some p.child) n (λ r. left_not_right n i (after_in n r))
      ∙ next_own f prev (Some p.child) n l in
      (ap (λ (x : Link). x.previous) e, ap (λ (x : Link). x.next) e))
      (distinct_left xs ys both) front_rest.0

  back_rest : Leads back_links (Some p.child) next ys back_head.last None
  back_rest =
      leads_rest f back_links (Some p.child) prev next ys held.last
      (λ n i r. back_other n (right_not_c n i) (λ l. left_not_right n (before_in n l) i) r)
      (λ n r i.
      let e : back_links n ≡ record (with_next f prev (Some p.child) n) { previous = Some p.child } =
      link_other (with_previous (with_next f prev (Some p.child)) next (Some p.child)) p.child n back_link (right_not_c n i)
      ∙ previous_own (with_next f prev (Some p.child)) next (Some p.child) n r in
      let k = next_other f prev (Some p.child) n (λ l. left_not_right n (before_in n l) i) in
      (ap (λ (x : Link). x.previous) e, ap (λ (x : Link). x.next) e ∙ ap (λ (x : Link). x.next) k))
      (distinct_right xs ys both) front_rest.1

  back_chain : Leads back_links None back_head.first (xs ++ p.child ∷ ys) back_head.last None
  back_chain =
      leads_append back_links None back_head.first xs (p.child ∷ ys) prev (Some p.child) back_head.last None back_front
      (refl, ap (λ (x : Link). x.previous) own, subst (λ k. Leads back_links (Some p.child) k ys back_head.last None) (sym (ap (λ (x : Link). x.next) own)) back_rest)

  back_own : head_of (set heads p.parent back_head) p.parent ≡ back_head
  back_own = get_or-set_same heads p.parent back_head empty_head within

  other_head : (v : ℕ) → (p.parent ≡ v → ⊥) → head_of (set heads p.parent back_head) v ≡ head_of heads v
  other_head v ne = get_or-set_other heads p.parent v back_head empty_head (λ e. ne (sym e))

  elsewhere : (v : ℕ) (n : Node) → (p.parent ≡ v → ⊥) → In n (inside v ps) → back_links n ≡ f n
  elsewhere v n ne i =
      let far : In n (inside p.parent ps) → ⊥ = λ h. ne (one_unit ps n p.parent v s.once h i) in
      let r = inside_parent v ps n s.once i in
      back_other n (λ e. some_none r.0 (sym r.1 ∙ ap (parent_in ps) (sym e) ∙ alone))
      (λ l. far (subst (In n) (sym split) (in_left n xs ys (before_in n l)))) (λ k. far (subst (In n) (sym split) (in_right n xs ys (after_in n k))))

  pub linked_back : AreLinked back_links (set heads p.parent back_head) (insert_pair p ps)
  linked_back = record {
    once = again;
    parents = back_parents;
    chains = λ v l. elim (ℕ_discrete p.parent v) [
      | yes e ↦ subst (λ w. Leads back_links None (head_of (set heads p.parent back_head) w).first (inside w (insert_pair p ps)) (head_of (set heads p.parent back_head) w).last None) e
          (subst (λ (h : Head). Leads back_links None h.first (inside p.parent (insert_pair p ps)) h.last None) (sym back_own)
          (subst (λ ns. Leads back_links None back_head.first ns back_head.last None) (sym between) back_chain))
      | no ne ↦
          let q : v < length heads = subst (λ m. v < m) (length-set heads p.parent back_head) l in
          subst (λ (h : Head). Leads back_links None h.first (inside v (insert_pair p ps)) h.last None) (sym (other_head v ne))
          (subst (λ ns. Leads back_links None (head_of heads v).first ns (head_of heads v).last None) (sym (inside_insert v p ps ne))
          (leads_same f back_links None (head_of heads v).first (inside v ps) (head_of heads v).last None (λ n i. elsewhere v n ne i) (s.chains v q)))
    ];
    counts = λ v l. elim (ℕ_discrete p.parent v) [
      | yes e ↦ subst (λ w. (head_of (set heads p.parent back_head) w).count ≡ length (inside w (insert_pair p ps))) e
          (let a = ap (λ (h : Head). h.count) back_own in
          let b = ap (λ (ns : List Node). length ns) between in
          let d = ap (λ (ns : List Node). length ns) split in
          omega (arith, s.counts p.parent within, length-append xs ys, length-append xs (p.child ∷ ys)))
      | no ne ↦
          let q : v < length heads = subst (λ m. v < m) (length-set heads p.parent back_head) l in
          ap (λ (h : Head). h.count) (other_head v ne) ∙ s.counts v q ∙ sym (ap (λ (ns : List Node). length ns) (inside_insert v p ps ne))
    ];
    known = λ n w e. subst (λ m. w < m) (sym (length-set heads p.parent back_head)) (elim (node_cases p.child n) [
      | inl d ↦
          let z : Some p.parent ≡ Some w = sym (ap (λ b. cond b (Some p.parent) (parent_in ps n)) (same_yes p.child n d)) ∙ sym (parent_insert p ps n alone) ∙ e in
          let y : p.parent ≡ w = cc in
          subst (λ (x : ℕ). x < length heads) y within
      | inr d ↦ s.known n w (sym (ap (λ b. cond b (Some p.parent) (parent_in ps n)) (same_no p.child n d)) ∙ sym (parent_insert p ps n alone) ∙ e)
    ]);
  }
