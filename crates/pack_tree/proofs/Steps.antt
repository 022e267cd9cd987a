-- How a packing goes from one state to the next.
use Rattle.std.proofs.Common.{◌≡◌, ◌≢◌, ℕ, zero, suc, replicate, ◌+◌, ◌<◌, ◌≤◌, cond, List, [], ◌∷◌, ◌++◌, length, get_or, set, Option, None, Some, IfSome, refl, sym, ap, subst, ◌∙◌, inl, inr, arith, append_assoc}
use Rattle.std.specs.List.{AllByRecursion}
use Rattle.std.proofs.lemmas.List.{length-append, length-replicate, length-set, get_or-set_same, get_or-set_other, get_or_past}
use native.Mathlib.Decide.{dec_lt}
use Rattle.pack_tree.specs.declared.node.Node.{Node}
use Rattle.pack_tree.specs.declared.node.Node.TheVariants.{Item as AnItem, Unit as AUnit}
use Rattle.pack_tree.specs.declared.link.Pair.{Pair}
use Rattle.pack_tree.specs.declared.link.Link.{Link}
use Rattle.pack_tree.specs.declared.link.Head.{Head}
use Rattle.pack_tree.specs.Pairs.{same_node, parent_in, inside, without, IsOnce}
use Rattle.pack_tree.specs.Links.{free_link, empty_head, head_of, link_of, Leads, with_link, with_next, with_previous, AreLinked}
use Rattle.pack_tree.specs.Numbers.{item_node, unit_node, pair_of, pairs_from, insert_pair, sorted, all_pairs, pairs_of, AreNumbered}
use Rattle.pack_tree.specs.Packing.{HasRoom, items_with, units_with, IsPacking, ChangesPairs}
use Rattle.pack_tree.specs.Taking.{IsGone}
use Rattle.pack_tree.proofs.Ends.{leads_last, leads_first, insert_length, sorted_length}
use Rattle.pack_tree.proofs.Chains.{last_in, leads_split}
use Rattle.pack_tree.specs.Children.{In}
use Rattle.pack_tree.proofs.Nodes.{node_cases}
use Rattle.pack_tree.proofs.PairLists.{inside_parent, parent_inside}
use Rattle.pack_tree.proofs.Writes.{link_own, link_other, next_own, next_other, previous_own, previous_other, next_parent, previous_parent, next_number, previous_number}
use Rattle.pack_tree.proofs.Sorting.{sorted_middle, insert_last, all_sorted, all_left, all_middle, all_but, once_insert, without_insert, pairs_set}
use Rattle.pack_tree.proofs.Changes.{linked_put, linked_take, put_links, put_head, take_links, take_head, before_is, after_is, in_whole_left, in_whole_right, parts, chain}

-- ---- one link written
item_apart : (a b : ℕ) → (AnItem a ≡ AnItem b → ⊥) → b ≡ a → ⊥
item_apart a b ne e = ne (ap AnItem (sym e))

unit_apart : (a b : ℕ) → (AUnit a ≡ AUnit b → ⊥) → b ≡ a → ⊥
unit_apart a b ne e = ne (ap AUnit (sym e))

pub link_with : (items units : List Link) (c : Node) (l : Link) → HasRoom (length items) (length units) c → (n : Node) → link_of (items_with items c l) (units_with units c l) n ≡ with_link (link_of items units) c l n
link_with items units c l room n = elim (node_cases c n) [
  | inl e ↦ subst (λ m. link_of (items_with items c l) (units_with units c l) m ≡ with_link (link_of items units) c l m) e (own c room ∙ sym (link_own (link_of items units) c l))
  | inr ne ↦ other c n ne ∙ sym (link_other (link_of items units) c n l ne)
]
  where
    own : (m : Node) → HasRoom (length items) (length units) m → link_of (items_with items m l) (units_with units m l) m ≡ l
    own (AnItem i) r = get_or-set_same items i l free_link r
    own (AUnit u) r = get_or-set_same units u l free_link r

    other : (m k : Node) → (m ≡ k → ⊥) → link_of (items_with items m l) (units_with units m l) k ≡ link_of items units k
    other (AnItem i) (AnItem j) ne = get_or-set_other items i j l free_link (item_apart i j ne)
    other (AnItem i) (AUnit u) ne = refl
    other (AUnit u) (AnItem i) ne = refl
    other (AUnit u) (AUnit v) ne = get_or-set_other units u v l free_link (unit_apart u v ne)

pub changes_with : (items units : List Link) (c : Node) (l : Link) → HasRoom (length items) (length units) c
    → ChangesPairs (all_pairs items units) (all_pairs (items_with items c l) (units_with units c l)) (pair_of c (link_of items units c).parent (link_of items units c).number) (pair_of c l.parent l.number)
changes_with items units (AnItem i) l room =
    let r = pairs_set item_node 0 items i l room in
    let z : 0 + i ≡ i = omega arith in
    let o = get_or items i free_link in
    let b = pairs_from unit_node 0 units in
    record {
      front = r.0;
      rest = r.1 ++ b;
      old_is = ap (λ xs. xs ++ b) (r.2 ∙ ap (λ k. r.0 ++ (pair_of (item_node k) o.parent o.number ++ r.1)) z) ∙ append_assoc r.0 _ b ∙ ap (λ xs. r.0 ++ xs) (append_assoc (pair_of (AnItem i) o.parent o.number) r.1 b);
      new_is = ap (λ xs. xs ++ b) (r.3 ∙ ap (λ k. r.0 ++ (pair_of (item_node k) l.parent l.number ++ r.1)) z) ∙ append_assoc r.0 _ b ∙ ap (λ xs. r.0 ++ xs) (append_assoc (pair_of (AnItem i) l.parent l.number) r.1 b);
    }
changes_with items units (AUnit u) l room =
    let r = pairs_set unit_node 0 units u l room in
    let z : 0 + u ≡ u = omega arith in
    let o = get_or units u free_link in
    let a = pairs_from item_node 0 items in
    record {
      front = a ++ r.0;
      rest = r.1;
      old_is = ap (λ xs. a ++ xs) (r.2 ∙ ap (λ k. r.0 ++ (pair_of (unit_node k) o.parent o.number ++ r.1)) z) ∙ sym (append_assoc a r.0 _);
      new_is = ap (λ xs. a ++ xs) (r.3 ∙ ap (λ k. r.0 ++ (pair_of (unit_node k) l.parent l.number ++ r.1)) z) ∙ sym (append_assoc a r.0 _);
    }

-- a link with the same parent and number leaves the pairs
pub same_pairs : (items units : List Link) (c : Node) (l : Link) → HasRoom (length items) (length units) c → l.parent ≡ (link_of items units c).parent → l.number ≡ (link_of items units c).number
    → all_pairs (items_with items c l) (units_with units c l) ≡ all_pairs items units
same_pairs items units c l room p k =
    let h = changes_with items units c l room in
    h.new_is ∙ (λ z. h.front ++ (pair_of c (p z) (k z) ++ h.rest)) ∙ sym h.old_is

pub next_with : (items units : List Link) (m : Node) (to : Option Node) → HasRoom (length items) (length units) m → (n : Node)
    → link_of (items_with items m (record (link_of items units m) { next = to })) (units_with units m (record (link_of items units m) { next = to })) n ≡ with_next (link_of items units) (Some m) to n
next_with items units m to room n =
    let f = link_of items units in
    let l : Link = record (f m) { next = to } in
    link_with items units m l room n
    ∙ elim (node_cases m n) [
      | inl e ↦ subst (λ k. with_link f m l k ≡ with_next f (Some m) to k) e (link_own f m l ∙ sym (next_own f (Some m) to m refl))
      | inr ne ↦ link_other f m n l ne ∙ sym (next_other f (Some m) to n (λ e. ne (some_is m n e)))
    ]
  where
    some_is : (a b : Node) → Some a ≡ Some b → a ≡ b
    some_is a b e = cc

pub previous_with : (items units : List Link) (m : Node) (to : Option Node) → HasRoom (length items) (length units) m → (n : Node)
    → link_of (items_with items m (record (link_of items units m) { previous = to })) (units_with units m (record (link_of items units m) { previous = to })) n ≡ with_previous (link_of items units) (Some m) to n
previous_with items units m to room n =
    let f = link_of items units in
    let l : Link = record (f m) { previous = to } in
    link_with items units m l room n
    ∙ elim (node_cases m n) [
      | inl e ↦ subst (λ k. with_link f m l k ≡ with_previous f (Some m) to k) e (link_own f m l ∙ sym (previous_own f (Some m) to m refl))
      | inr ne ↦ link_other f m n l ne ∙ sym (previous_other f (Some m) to n (λ e. ne (some_is m n e)))
    ]
  where
    some_is : (a b : Node) → Some a ≡ Some b → a ≡ b
    some_is a b e = cc

-- a node with a parent has room
pub room_of : (items units : List Link) (n : Node) (u : ℕ) → (link_of items units n).parent ≡ Some u → HasRoom (length items) (length units) n
room_of items units (AnItem i) u e = elim (dec_lt i (length items)) [
  | yes l ↦ l
  | no l ↦ absurd (none_some (sym (ap (λ (x : Link). x.parent) (get_or_past items i free_link (omega arith))) ∙ e))
]
  where
    none_some : None ≡ Some u → ⊥
    none_some z = cc
room_of items units (AUnit v) u e = elim (dec_lt v (length units)) [
  | yes l ↦ l
  | no l ↦ absurd (none_some (sym (ap (λ (x : Link). x.parent) (get_or_past units v free_link (omega arith))) ∙ e))
]
  where
    none_some : None ≡ Some u → ⊥
    none_some z = cc

pub child_room : (items units : List Link) (heads : List Head) (ps : List Pair) → AreLinked (link_of items units) heads ps → (v : ℕ) (n : Node) → In n (inside v ps) → HasRoom (length items) (length units) n
child_room items units heads ps s v n h = let r = inside_parent v ps n s.once h in room_of items units n r.0 (s.parents n ∙ r.1)

-- ---- a child is put
-- the lists of pairs before and after
pub pairs_put : (old new : List Pair) (p : Pair) (last : ℕ) → ChangesPairs old new [] (p ∷ []) → AllByRecursion (λ q. q.number ≤ last) old → p.number ≡ last + 1 → sorted new ≡ sorted old ++ p ∷ []
pairs_put old new p last h given e =
    let a : AllByRecursion (λ (q : Pair). q.number ≤ last) (h.front ++ h.rest) = subst (λ xs. AllByRecursion (λ (q : Pair). q.number ≤ last) xs) h.old_is given in
    ap sorted h.new_is
    ∙ sorted_middle h.front p h.rest (differ h.front (all_left _ h.front h.rest a))
    ∙ insert_last p (sorted (h.front ++ h.rest)) (below (sorted (h.front ++ h.rest)) (all_sorted _ (h.front ++ h.rest) a))
    ∙ ap (λ xs. sorted xs ++ p ∷ []) (sym h.old_is)
  where
    differ : (xs : List Pair) → AllByRecursion (λ q. q.number ≤ last) xs → AllByRecursion (λ q. q.number ≢ p.number) xs
    differ [] b = tt
    differ (x ∷ xs) b = (λ f. absurd (omega (arith, b.0)), differ xs b.1)

    below : (xs : List Pair) → AllByRecursion (λ q. q.number ≤ last) xs → AllByRecursion (λ q. q.number < p.number) xs
    below [] b = tt
    below (x ∷ xs) b = (omega (arith, b.0), below xs b.1)

pub numbered_put : (xs : List Pair) (p : Pair) (ys : List Pair) (last : ℕ) → AreNumbered (xs ++ ys) → AllByRecursion (λ q. q.number ≤ last) (xs ++ ys) → p.number ≡ last + 1 → AreNumbered (xs ++ p ∷ ys)
numbered_put [] p ys last n a e = (differ ys a, n)
  where
    differ : (zs : List Pair) → AllByRecursion (λ q. q.number ≤ last) zs → AllByRecursion (λ q. q.number ≢ p.number) zs
    differ [] b = tt
    differ (z ∷ zs) b = (λ f. absurd (omega (arith, b.0)), differ zs b.1)
numbered_put (x ∷ xs) p ys last n a e =
    (all_middle (λ (q : Pair). q.number ≢ x.number) xs p ys (λ f. absurd (omega (arith, a.0))) n.0, numbered_put xs p ys last n.1 a.1 e)

pub numbered_take : (xs : List Pair) (p : Pair) (ys : List Pair) → AreNumbered (xs ++ p ∷ ys) → AreNumbered (xs ++ ys)
numbered_take [] p ys n = n.1
numbered_take (x ∷ xs) p ys n = (all_but (λ (q : Pair). q.number ≢ x.number) xs p ys n.0, numbered_take xs p ys n.1)

pub here : (P : Pair → Type 0) (xs : List Pair) (p : Pair) (ys : List Pair) → AllByRecursion P (xs ++ p ∷ ys) → P p
here P [] p ys a = a.0
here P (x ∷ xs) p ys a = here P xs p ys a.1

pub front_apart : (xs : List Pair) (p : Pair) (ys : List Pair) → AreNumbered (xs ++ p ∷ ys) → AllByRecursion (λ q. q.number ≢ p.number) xs
front_apart [] p ys n = tt
front_apart (x ∷ xs) p ys n = (λ e. differs xs n.0 (sym e), front_apart xs p ys n.1)
  where
    differs : (zs : List Pair) → AllByRecursion (λ q. q.number ≢ x.number) (zs ++ p ∷ ys) → p.number ≡ x.number → ⊥
    differs [] b e = b.0 e
    differs (z ∷ zs) b e = differs zs b.1 e

pub middle_apart : (xs : List Pair) (p : Pair) (ys : List Pair) → AreNumbered (xs ++ p ∷ ys) → AllByRecursion (λ q. q.number ≢ p.number) (xs ++ ys)
middle_apart [] p ys n = n.0
middle_apart (x ∷ xs) p ys n = (λ e. here (λ (q : Pair). q.number ≢ x.number) xs p ys n.0 (sym e), middle_apart xs p ys n.1)

pub weaken : (last : ℕ) (xs : List Pair) → AllByRecursion (λ q. q.number ≤ last) xs → AllByRecursion (λ q. q.number ≤ last + 1) xs
weaken last [] b = tt
weaken last (x ∷ xs) b = (omega (arith, b.0), weaken last xs b.1)

module _ (items units : List Link) (heads : List Head) (last : ℕ) (s : IsPacking items units heads last) where
  -- the links and the pairs that a put leaves
  module _ (items1 units1 items2 units2 : List Link) (c : Node) (u : ℕ) (within : u < length heads) (new : parent_in (pairs_of items units) c ≡ None)
      (nexts : (n : Node) → link_of items1 units1 n ≡ with_next (link_of items units) (head_of heads u).last (Some c) n)
      (same : all_pairs items1 units1 ≡ all_pairs items units)
      (links : (n : Node) → link_of items2 units2 n ≡ with_link (link_of items1 units1) c (record { parent = Some u; previous = (head_of heads u).last; next = None; number = last + 1 }) n)
      (changes : ChangesPairs (all_pairs items1 units1) (all_pairs items2 units2) (pair_of c (link_of items1 units1 c).parent (link_of items1 units1 c).number) (record { child = c; parent = u; number = last + 1 } ∷ []))
      (size : length units2 ≡ length units) where
    p : Pair
    p = record { child = c; parent = u; number = last + 1 }

    none : (link_of items1 units1 c).parent ≡ None
    none = ap (λ (x : Link). x.parent) (nexts c) ∙ next_parent (link_of items units) (head_of heads u).last (Some c) c ∙ s.linked.parents c ∙ new

    nothing : pair_of c (link_of items1 units1 c).parent (link_of items1 units1 c).number ≡ []
    nothing = ap (λ o. pair_of c o (link_of items1 units1 c).number) none

    came : ChangesPairs (all_pairs items units) (all_pairs items2 units2) [] (p ∷ [])
    unfolding p
    came = record {
      front = changes.front;
      rest = changes.rest;
      old_is = sym same ∙ changes.old_is ∙ ap (λ xs. changes.front ++ (xs ++ changes.rest)) nothing;
      new_is = changes.new_is;
    }

    pub put_pairs : pairs_of items2 units2 ≡ pairs_of items units ++ record { child = c; parent = u; number = last + 1 } ∷ []
    unfolding p
    put_pairs = pairs_put (all_pairs items units) (all_pairs items2 units2) p last came s.given refl

    all_links : link_of items2 units2 ≡ put_links (link_of items units) heads (pairs_of items units) c u (last + 1) s.linked within new
    all_links = λ z n. (links n ∙ ap (λ x. cond (same_node c n) (record { parent = Some u; previous = (head_of heads u).last; next = None; number = last + 1 }) x) (nexts n)) z

    pub packing_put : IsPacking items2 units2 (set heads u (put_head (link_of items units) heads (pairs_of items units) c u (last + 1) s.linked within new)) (last + 1)
    unfolding p
    packing_put = record {
      linked = subst (λ f. AreLinked f (set heads u (put_head (link_of items units) heads (pairs_of items units) c u (last + 1) s.linked within new)) (pairs_of items2 units2)) (sym all_links)
          (subst (AreLinked (put_links (link_of items units) heads (pairs_of items units) c u (last + 1) s.linked within new) (set heads u (put_head (link_of items units) heads (pairs_of items units) c u (last + 1) s.linked within new))) (sym put_pairs)
          (linked_put (link_of items units) heads (pairs_of items units) c u (last + 1) s.linked within new));
      numbered = subst AreNumbered (sym came.new_is) (numbered_put came.front p came.rest last (subst AreNumbered came.old_is s.numbered) (subst (λ xs. AllByRecursion (λ (q : Pair). q.number ≤ last) xs) came.old_is s.given) refl);
      given = subst (λ xs. AllByRecursion (λ (q : Pair). q.number ≤ last + 1) xs) (sym came.new_is)
          (all_middle (λ (q : Pair). q.number ≤ last + 1) came.front p came.rest (omega arith) (weaken last (came.front ++ came.rest) (subst (λ xs. AllByRecursion (λ (q : Pair). q.number ≤ last) xs) came.old_is s.given)));
      headed = size ∙ s.headed ∙ sym (length-set heads u _);
      few =
          let a = ap (λ (qs : List Pair). length qs) came.old_is in
          let b = ap (λ (qs : List Pair). length qs) came.new_is in
          omega (arith, s.few, length-append came.front came.rest, length-append came.front (p ∷ came.rest));
    }

  -- the links and the pairs that a take leaves
  module _ (items1 units1 items2 units2 items3 units3 : List Link) (c : Node) (u : ℕ) (has : parent_in (pairs_of items units) c ≡ Some u)
      (nexts : (n : Node) → link_of items1 units1 n ≡ with_next (link_of items units) (link_of items units c).previous (link_of items units c).next n)
      (same1 : all_pairs items1 units1 ≡ all_pairs items units)
      (previouses : (n : Node) → link_of items2 units2 n ≡ with_previous (link_of items1 units1) (link_of items units c).next (link_of items units c).previous n)
      (same2 : all_pairs items2 units2 ≡ all_pairs items1 units1)
      (links : (n : Node) → link_of items3 units3 n ≡ with_link (link_of items2 units2) c free_link n)
      (changes : ChangesPairs (all_pairs items2 units2) (all_pairs items3 units3) (pair_of c (link_of items2 units2 c).parent (link_of items2 units2 c).number) [])
      (size : length units3 ≡ length units) where
    its : (link_of items2 units2 c).parent ≡ Some u
    its =
        ap (λ (x : Link). x.parent) (previouses c) ∙ previous_parent (link_of items1 units1) (link_of items units c).next (link_of items units c).previous c
        ∙ ap (λ (x : Link). x.parent) (nexts c) ∙ next_parent (link_of items units) (link_of items units c).previous (link_of items units c).next c ∙ s.linked.parents c ∙ has

    q : Pair
    q = record { child = c; parent = u; number = (link_of items2 units2 c).number }

    old_split : all_pairs items units ≡ changes.front ++ q ∷ changes.rest
    unfolding q
    old_split = sym same1 ∙ sym same2 ∙ changes.old_is ∙ ap (λ o. changes.front ++ (pair_of c o (link_of items2 units2 c).number ++ changes.rest)) its

    apart_numbers : AreNumbered (changes.front ++ q ∷ changes.rest)
    apart_numbers = subst AreNumbered old_split s.numbered

    was : pairs_of items units ≡ insert_pair q (sorted (changes.front ++ changes.rest))
    was = ap sorted old_split ∙ sorted_middle changes.front q changes.rest (front_apart changes.front q changes.rest apart_numbers)

    alone : parent_in (sorted (changes.front ++ changes.rest)) c ≡ None
    unfolding q
    alone = once_insert q (sorted (changes.front ++ changes.rest)) (subst IsOnce was s.linked.once)

    -- what was, with the pair that was taken
    pub take_was : (p : Pair) × (p.child ≡ c) × (p.parent ≡ u) × (pairs_of items units ≡ insert_pair p (pairs_of items3 units3))
    unfolding q
    take_was = (q, refl, refl, was ∙ ap (insert_pair q) (sym (ap sorted changes.new_is)))

    pub take_pairs : pairs_of items3 units3 ≡ without c (pairs_of items units)
    unfolding q
    take_pairs = ap sorted changes.new_is ∙ sym (without_insert q (sorted (changes.front ++ changes.rest)) alone) ∙ ap (without c) (sym was)

    all_taken : link_of items3 units3 ≡ take_links (link_of items units) heads (pairs_of items units) c u s.linked has
    all_taken = λ z n. (links n ∙ ap (λ x. cond (same_node c n) free_link x) (previouses n ∙ (λ y. with_previous (λ m. nexts m y) (link_of items units c).next (link_of items units c).previous n))) z

    pub packing_take : IsPacking items3 units3 (set heads u (take_head (link_of items units) heads (pairs_of items units) c u s.linked has)) last
    packing_take = record {
      linked = subst (λ f. AreLinked f (set heads u (take_head (link_of items units) heads (pairs_of items units) c u s.linked has)) (pairs_of items3 units3)) (sym all_taken)
          (subst (AreLinked (take_links (link_of items units) heads (pairs_of items units) c u s.linked has) (set heads u (take_head (link_of items units) heads (pairs_of items units) c u s.linked has))) (sym take_pairs)
          (linked_take (link_of items units) heads (pairs_of items units) c u s.linked has));
      numbered = subst AreNumbered (sym changes.new_is) (numbered_take changes.front q changes.rest apart_numbers);
      given = subst (λ xs. AllByRecursion (λ (p : Pair). p.number ≤ last) xs) (sym changes.new_is) (all_but (λ (p : Pair). p.number ≤ last) changes.front q changes.rest (subst (λ xs. AllByRecursion (λ (p : Pair). p.number ≤ last) xs) old_split s.given));
      headed = size ∙ s.headed ∙ sym (length-set heads u _);
      few =
          let a = ap (λ (qs : List Pair). length qs) old_split in
          let b = ap (λ (qs : List Pair). length qs) changes.new_is in
          omega (arith, s.few, length-append changes.front changes.rest, length-append changes.front (q ∷ changes.rest));
    }

    number_is : q.number ≡ (link_of items units c).number
    unfolding q
    number_is =
        ap (λ (x : Link). x.number) (previouses c) ∙ previous_number (link_of items1 units1) (link_of items units c).next (link_of items units c).previous c
        ∙ ap (λ (x : Link). x.number) (nexts c) ∙ next_number (link_of items units) (link_of items units c).previous (link_of items units c).next c

    -- what was, with what was taken
    pub take_back : (k : ℕ) → k ≡ (link_of items units c).number → pairs_of items units ≡ insert_pair (record { child = c; parent = u; number = k }) (pairs_of items3 units3)
    unfolding q
    take_back k e =
        was ∙ (λ z. insert_pair (record { child = c; parent = u; number = (number_is ∙ sym e) z }) (sorted (changes.front ++ changes.rest)))
        ∙ ap (insert_pair (record { child = c; parent = u; number = k })) (sym (ap sorted changes.new_is))

    rest_apart : AllByRecursion (λ (x : Pair). x.number ≢ q.number) (changes.front ++ changes.rest)
    rest_apart = middle_apart changes.front q changes.rest apart_numbers

    pub take_gone : (prev next : Option Node) (k : ℕ) → prev ≡ (link_of items units c).previous → next ≡ (link_of items units c).next → k ≡ (link_of items units c).number
        → length items3 ≡ length items → (heads3 : List Head) → length heads3 ≡ length heads
        → IsGone (record { pairs = pairs_of items3 units3; last = last; items = length items3; units = length heads3 }) (record { child = c; parent = u; previous = prev; next = next; number = k })
    unfolding q
    take_gone prev next k prev_is next_is number many heads3 tops =
        let f = link_of items units in
        let ps = pairs_of items units in
        let r = leads_split f None (head_of heads u).first (parts f heads ps c u s.linked has).0 (c ∷ (parts f heads ps c u s.linked has).1) (head_of heads u).last None (chain f heads ps c u s.linked has) in
        let room : HasRoom (length items) (length units) c = room_of items units c u (s.linked.parents c ∙ has) in
        record {
          room = subst (λ m. HasRoom m (length heads3) c) (sym many) (subst (λ m. HasRoom (length items) m c) (s.headed ∙ sym tops) room);
          range = subst (λ m. u < m) (sym tops) (s.linked.known c u has);
          alone = ap (λ qs. parent_in qs c) (ap sorted changes.new_is) ∙ alone;
          given = subst (λ m. m ≤ last) (number_is ∙ sym number) (here (λ (x : Pair). x.number ≤ last) changes.front q changes.rest (subst (λ xs. AllByRecursion (λ (x : Pair). x.number ≤ last) xs) old_split s.given));
          new = subst (λ m. AllByRecursion (λ (x : Pair). x.number ≢ m) (pairs_of items3 units3)) (number_is ∙ sym number)
              (subst (λ xs. AllByRecursion (λ (x : Pair). x.number ≢ q.number) (sorted xs)) (sym changes.new_is) (all_sorted (λ (x : Pair). x.number ≢ q.number) (changes.front ++ changes.rest) rest_apart));
          few =
              let a = ap (λ (qs : List Pair). length qs) (take_back k number) in
              omega (arith, s.few, sorted_length (all_pairs items units), insert_length (record { child = c; parent = u; number = k }) (pairs_of items3 units3));
          before = (parts f heads ps c u s.linked has).0;
          after = (parts f heads ps c u s.linked has).1;
          between = ap (inside u) (sym (take_back k number)) ∙ (parts f heads ps c u s.linked has).2;
          previous = prev_is ∙ r.3.1 ∙ sym (leads_last f (head_of heads u).first (parts f heads ps c u s.linked has).0 r.0 r.1 r.2);
          next = next_is ∙ leads_first f (Some c) (f c).next (parts f heads ps c u s.linked has).1 (head_of heads u).last r.3.2;
        }

-- what holds wherever there is a node
pub if_some : (o : Option Node) (P : Node → Type 0) → ((n : Node) → o ≡ Some n → P n) → IfSome o P
if_some None P h = tt
if_some (Some n) P h = h n refl

-- the last child has room
pub last_room : (items units : List Link) (heads : List Head) (last : ℕ) → IsPacking items units heads last → (u : ℕ) → u < length heads → IfSome (head_of heads u).last (HasRoom (length items) (length units))
last_room items units heads last s u l = if_some (head_of heads u).last _ (λ n e.
    child_room items units heads (pairs_of items units) s.linked u n (last_in (link_of items units) (head_of heads u).first (inside u (pairs_of items units)) (head_of heads u).last None n (s.linked.chains u l) e))

some_in : (n : Node) (ns : List Node) → In n ns → 0 < length ns
some_in n [] h = absurd h
some_in n (m ∷ ns) h = omega arith

module _ (items units : List Link) (heads : List Head) (last : ℕ) (s : IsPacking items units heads last) (c : Node) (u : ℕ) (has : parent_in (pairs_of items units) c ≡ Some u) where
  -- the neighbours of a child have room
  pub previous_room : IfSome (link_of items units c).previous (HasRoom (length items) (length units))
  previous_room = if_some (link_of items units c).previous _ (λ n e.
      child_room items units heads (pairs_of items units) s.linked u n
      (in_whole_left (link_of items units) heads (pairs_of items units) c u s.linked has n (before_is (link_of items units) heads (pairs_of items units) c u s.linked has n e)))

  pub next_room : IfSome (link_of items units c).next (HasRoom (length items) (length units))
  next_room = if_some (link_of items units c).next _ (λ n e.
      child_room items units heads (pairs_of items units) s.linked u n
      (in_whole_right (link_of items units) heads (pairs_of items units) c u s.linked has n (after_is (link_of items units) heads (pairs_of items units) c u s.linked has n e)))

  -- its unit has a child
  pub counted : 0 < (head_of heads u).count
  counted = subst (λ k. 0 < k) (sym (s.linked.counts u (s.linked.known c u has))) (some_in c (inside u (pairs_of items units)) (parent_inside (pairs_of items units) c u has))

-- ---- more room
pub past_free : {X : Type 0} (xs : List X) (k i : ℕ) (d : X) → get_or (xs ++ replicate k d) i d ≡ get_or xs i d
past_free [] zero i d = refl
past_free [] (suc k) zero d = refl
past_free [] (suc k) (suc i) d = past_free [] k i d
past_free (x ∷ xs) k zero d = refl
past_free (x ∷ xs) k (suc i) d = past_free xs k i d

free_pairs : (node : ℕ → Node) (at k : ℕ) → pairs_from node at (replicate k free_link) ≡ []
free_pairs node at zero = refl
free_pairs node at (suc k) = free_pairs node (at + 1) k

pairs_grow : (node : ℕ → Node) (at : ℕ) (links : List Link) (k : ℕ) → pairs_from node at (links ++ replicate k free_link) ≡ pairs_from node at links
pairs_grow node at [] k = free_pairs node at k
pairs_grow node at (l ∷ links) k = ap (λ xs. pair_of (node at) l.parent l.number ++ xs) (pairs_grow node (at + 1) links k)

pub grown_pairs : (items units more_items more_units : List Link) (j k : ℕ) → more_items ≡ items ++ replicate j free_link → more_units ≡ units ++ replicate k free_link → all_pairs more_items more_units ≡ all_pairs items units
grown_pairs items units more_items more_units j k e f =
    (λ z. all_pairs (e z) (f z)) ∙ (λ z. pairs_grow item_node 0 items j z ++ pairs_grow unit_node 0 units k z)

grown_links : (items units more_items more_units : List Link) (j k : ℕ) → more_items ≡ items ++ replicate j free_link → more_units ≡ units ++ replicate k free_link → (n : Node) → link_of more_items more_units n ≡ link_of items units n
grown_links items units more_items more_units j k e f (AnItem i) = ap (λ (xs : List Link). get_or xs i free_link) e ∙ past_free items j i free_link
grown_links items units more_items more_units j k e f (AUnit u) = ap (λ (xs : List Link). get_or xs u free_link) f ∙ past_free units k u free_link

-- a list that no node is in
empty_from : (ns : List Node) → ((n : Node) → In n ns → ⊥) → ns ≡ []
empty_from [] h = refl
empty_from (n ∷ ns) h = absurd (h n (inl refl))

pub packing_grow : (items units more_items more_units : List Link) (heads more_heads : List Head) (last j k : ℕ) → IsPacking items units heads last
    → more_items ≡ items ++ replicate j free_link → more_units ≡ units ++ replicate k free_link → more_heads ≡ heads ++ replicate k empty_head → IsPacking more_items more_units more_heads last
packing_grow items units more_items more_units heads more_heads last j k s e f g =
    let ps = pairs_of items units in
    let pairs = grown_pairs items units more_items more_units j k e f in
    let all : link_of items units ≡ link_of more_items more_units = sym (λ z n. grown_links items units more_items more_units j k e f n z) in
    let head : (v : ℕ) → head_of more_heads v ≡ head_of heads v = λ v. ap (λ (xs : List Head). get_or xs v empty_head) g ∙ past_free heads k v empty_head in
    let none : (v : ℕ) → (v < length heads → ⊥) → inside v ps ≡ [] = λ v out. empty_from (inside v ps) (λ n i. let r = inside_parent v ps n s.linked.once i in out (subst (λ x. x < length heads) r.2 (s.linked.known n r.0 r.1))) in
    let longer : length heads ≤ length more_heads = omega (arith, ap (λ (xs : List Head). length xs) g, length-append heads (replicate k empty_head)) in
    let linked : AreLinked (link_of items units) more_heads ps = record {
      once = s.linked.once;
      parents = s.linked.parents;
      chains = λ v p. subst (λ (h : Head). Leads (link_of items units) None h.first (inside v ps) h.last None) (sym (head v)) (elim (dec_lt v (length heads)) [
        | yes l ↦ s.linked.chains v l
        | no l ↦ subst (λ ns. Leads (link_of items units) None (head_of heads v).first ns (head_of heads v).last None) (sym (none v l))
            (subst (λ (h : Head). Leads (link_of items units) None h.first [] h.last None) (sym (get_or_past heads v empty_head (omega arith))) (refl, refl))
      ]);
      counts = λ v p. ap (λ (h : Head). h.count) (head v) ∙ elim (dec_lt v (length heads)) [
        | yes l ↦ s.linked.counts v l
        | no l ↦ ap (λ (h : Head). h.count) (get_or_past heads v empty_head (omega arith)) ∙ sym (ap (λ (ns : List Node). length ns) (none v l))
      ];
      known = λ n w q. let l = s.linked.known n w q in omega arith;
    } in
    record {
      linked = subst (λ x. AreLinked x more_heads (pairs_of more_items more_units)) all (subst (AreLinked (link_of items units) more_heads) (sym (ap sorted pairs)) linked);
      numbered = subst AreNumbered (sym pairs) s.numbered;
      given = subst (λ xs. AllByRecursion (λ (p : Pair). p.number ≤ last) xs) (sym pairs) s.given;
      few = subst (λ (qs : List Pair). length qs ≤ last) (sym pairs) s.few;
      headed = omega (arith, ap (λ (xs : List Link). length xs) f, ap (λ (xs : List Head). length xs) g, length-append units (replicate k free_link), length-append heads (replicate k empty_head), length-replicate k free_link, length-replicate k empty_head, s.headed);
    }
