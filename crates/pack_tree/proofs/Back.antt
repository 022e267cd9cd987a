-- How a packing goes back to what it was.
use Rattle.std.proofs.Common.{◌≡◌, ◌≢◌, ℕ, ◌+◌, ◌-◌, ◌<◌, ◌≤◌, Bool, true, false, cond, ltb, List, [], ◌∷◌, ◌++◌, length, set, Option, None, Some, refl, sym, ap, subst, ◌∙◌, arith, rules}
use Rattle.std.specs.List.{AllByRecursion}
use Rattle.std.proofs.lemmas.List.{length-append, length-set}
use Rattle.pack_tree.specs.declared.node.Node.{Node}
use Rattle.pack_tree.specs.declared.link.Pair.{Pair}
use Rattle.pack_tree.specs.declared.link.Link.{Link}
use Rattle.pack_tree.specs.declared.link.Head.{Head}
use Rattle.pack_tree.specs.Pairs.{same_node, parent_in, inside}
use Rattle.pack_tree.specs.Numbers.{pair_of, insert_pair, sorted, all_pairs, pairs_of, AreNumbered}
use Rattle.pack_tree.specs.Taking.{first_of, last_of}
use Rattle.pack_tree.specs.Links.{head_of, link_of, with_link, with_next, with_previous, AreLinked}
use Rattle.pack_tree.specs.Packing.{IsPacking, ChangesPairs}
use Rattle.pack_tree.proofs.Writes.{next_parent, previous_parent}
use Rattle.pack_tree.proofs.Sorting.{sorted_middle, all_left, all_middle}
use Rattle.pack_tree.proofs.Ends.{sorted_length, insert_length}
use Rattle.pack_tree.proofs.Nodes.{same_self, same_yes}
use Rattle.std.specs.Prelude.{IsSome}
use Rattle.pack_tree.specs.Children.{In}
use Rattle.pack_tree.specs.Packing.{HasRoom}
use Rattle.std.proofs.Common.{IfSome}
use Rattle.pack_tree.proofs.Chains.{in_left, in_right}
use Rattle.pack_tree.proofs.Steps.{if_some, child_room}
use Rattle.pack_tree.proofs.Between.{parts_of, first_in, last_is_in, back_links, back_head, linked_back}

-- ---- sorting back
module _ (P : Pair → Type 0) where
  all_drawn : (p : Pair) (s : List Pair) → AllByRecursion P (insert_pair p s) → P p × AllByRecursion P s
  all_drawn p [] a = (a.0, tt)
  all_drawn p (q ∷ s) a = cases (all_drawn p s) (ltb p.number q.number) a
    where
      cases : (AllByRecursion P (insert_pair p s) → P p × AllByRecursion P s) → (t : Bool) → AllByRecursion P (cond t (p ∷ q ∷ s) (q ∷ insert_pair p s)) → P p × AllByRecursion P (q ∷ s)
      cases ih true h = (h.0, h.1)
      cases ih false h = ((ih h.1).0, (h.0, (ih h.1).1))

  pub all_unsorted : (ps : List Pair) → AllByRecursion P (sorted ps) → AllByRecursion P ps
  all_unsorted [] a = tt
  all_unsorted (p ∷ ps) a = let r = all_drawn p (sorted ps) a in (r.0, all_unsorted ps r.1)

pub inside_length : (u : ℕ) (ps : List Pair) → length (inside u ps) ≤ length ps
inside_length u [] = omega arith
inside_length u (p ∷ ps) = cases (inside_length u ps) _
  where
    cases : length (inside u ps) ≤ length ps → (t : Bool) → length (cond t (p.child ∷ inside u ps) (inside u ps)) ≤ length (p ∷ ps)
    cases ih true = omega arith
    cases ih false = omega arith

-- no more children than the last number
pub few_inside : (items units : List Link) (heads : List Head) (last : ℕ) → IsPacking items units heads last → (u : ℕ) → u < length heads → (head_of heads u).count ≤ last
few_inside items units heads last s u l =
    omega (arith, s.linked.counts u l, inside_length u (pairs_of items units), sorted_length (all_pairs items units), s.few)

pub few_gone : (items units : List Link) (heads : List Head) (last : ℕ) → IsPacking items units heads last → (u : ℕ) → u < length heads → length (pairs_of items units) + 1 ≤ last → (head_of heads u).count + 1 ≤ last
few_gone items units heads last s u l few = omega (arith, s.linked.counts u l, inside_length u (pairs_of items units), few)

-- the neighbours have room
module _ (items units : List Link) (heads : List Head) (last : ℕ) (s : IsPacking items units heads last) (p : Pair) (xs ys : List Node)
    (alone : parent_in (pairs_of items units) p.child ≡ None) (between : inside p.parent (insert_pair p (pairs_of items units)) ≡ xs ++ p.child ∷ ys) where
  both_in : inside p.parent (pairs_of items units) ≡ xs ++ ys
  both_in = parts_of (pairs_of items units) p xs ys s.linked.once alone between

  pub before_room : IfSome (last_of xs) (HasRoom (length items) (length units))
  before_room = if_some (last_of xs) _ (λ n e. child_room items units heads (pairs_of items units) s.linked p.parent n (subst (In n) (sym both_in) (in_left n xs ys (last_is_in xs n e))))

  pub after_room : IfSome (first_of ys) (HasRoom (length items) (length units))
  after_room = if_some (first_of ys) _ (λ n e. child_room items units heads (pairs_of items units) s.linked p.parent n (subst (In n) (sym both_in) (in_right n xs ys (first_in ys (first_of ys) n refl e))))

numbered_between : (xs : List Pair) (p : Pair) (ys : List Pair) → AreNumbered (xs ++ ys) → AllByRecursion (λ q. q.number ≢ p.number) (xs ++ ys) → AreNumbered (xs ++ p ∷ ys)
numbered_between [] p ys n a = (a, n)
numbered_between (x ∷ xs) p ys n a =
    (all_middle (λ (q : Pair). q.number ≢ x.number) xs p ys (λ e. a.0 (sym e)) n.0, numbered_between xs p ys n.1 a.1)

module _ (items units : List Link) (heads : List Head) (last : ℕ) (s : IsPacking items units heads last)
    (items1 units1 items2 units2 items3 units3 : List Link) (p : Pair) (xs ys : List Node) (prev next : Option Node)
    (within : p.parent < length heads) (alone : parent_in (pairs_of items units) p.child ≡ None)
    (given : p.number ≤ last) (new : AllByRecursion (λ q. q.number ≢ p.number) (pairs_of items units)) (few : length (pairs_of items units) + 1 ≤ last)
    (between : inside p.parent (insert_pair p (pairs_of items units)) ≡ xs ++ p.child ∷ ys) (prev_is : prev ≡ last_of xs) (next_is : next ≡ first_of ys)
    (nexts : (n : Node) → link_of items1 units1 n ≡ with_next (link_of items units) prev (Some p.child) n)
    (same1 : all_pairs items1 units1 ≡ all_pairs items units)
    (previouses : (n : Node) → link_of items2 units2 n ≡ with_previous (link_of items1 units1) next (Some p.child) n)
    (same2 : all_pairs items2 units2 ≡ all_pairs items1 units1)
    (links : (n : Node) → link_of items3 units3 n ≡ with_link (link_of items2 units2) p.child (record { parent = Some p.parent; previous = prev; next = next; number = p.number }) n)
    (changes : ChangesPairs (all_pairs items2 units2) (all_pairs items3 units3) (pair_of p.child (link_of items2 units2 p.child).parent (link_of items2 units2 p.child).number) (p ∷ []))
    (size : length units3 ≡ length units) where
  none : (link_of items2 units2 p.child).parent ≡ None
  none =
      ap (λ (x : Link). x.parent) (previouses p.child) ∙ previous_parent (link_of items1 units1) next (Some p.child) p.child
      ∙ ap (λ (x : Link). x.parent) (nexts p.child) ∙ next_parent (link_of items units) prev (Some p.child) p.child ∙ s.linked.parents p.child ∙ alone

  old_split : all_pairs items units ≡ changes.front ++ changes.rest
  old_split = sym same1 ∙ sym same2 ∙ changes.old_is ∙ ap (λ o. changes.front ++ (pair_of p.child o (link_of items2 units2 p.child).number ++ changes.rest)) none

  differ : AllByRecursion (λ (q : Pair). q.number ≢ p.number) (changes.front ++ changes.rest)
  differ = subst (AllByRecursion (λ (q : Pair). q.number ≢ p.number)) old_split (all_unsorted (λ (q : Pair). q.number ≢ p.number) (all_pairs items units) new)

  pub back_pairs : pairs_of items3 units3 ≡ insert_pair p (pairs_of items units)
  back_pairs =
      ap sorted changes.new_is ∙ sorted_middle changes.front p changes.rest (all_left (λ (q : Pair). q.number ≢ p.number) changes.front changes.rest differ)
      ∙ ap (λ qs. insert_pair p (sorted qs)) (sym old_split)

  all_back : link_of items3 units3 ≡ back_links (link_of items units) heads (pairs_of items units) p xs ys prev next s.linked within alone between prev_is next_is
  all_back = λ z n. (links n ∙ ap (λ x. cond (same_node p.child n) (record { parent = Some p.parent; previous = prev; next = next; number = p.number }) x) (previouses n ∙ (λ y. with_previous (λ m. nexts m y) next (Some p.child) n))) z

  pub packing_back : IsPacking items3 units3 (set heads p.parent (back_head (link_of items units) heads (pairs_of items units) p xs ys prev next s.linked within alone between prev_is next_is)) last
  packing_back = record {
    linked = subst (λ f. AreLinked f (set heads p.parent (back_head (link_of items units) heads (pairs_of items units) p xs ys prev next s.linked within alone between prev_is next_is)) (pairs_of items3 units3)) (sym all_back)
        (subst (AreLinked (back_links (link_of items units) heads (pairs_of items units) p xs ys prev next s.linked within alone between prev_is next_is) (set heads p.parent (back_head (link_of items units) heads (pairs_of items units) p xs ys prev next s.linked within alone between prev_is next_is))) (sym back_pairs)
        (linked_back (link_of items units) heads (pairs_of items units) p xs ys prev next s.linked within alone between prev_is next_is));
    numbered = subst AreNumbered (sym changes.new_is) (numbered_between changes.front p changes.rest (subst AreNumbered old_split s.numbered) differ);
    given = subst (λ qs. AllByRecursion (λ (q : Pair). q.number ≤ last) qs) (sym changes.new_is)
        (all_middle (λ (q : Pair). q.number ≤ last) changes.front p changes.rest given (subst (λ qs. AllByRecursion (λ (q : Pair). q.number ≤ last) qs) old_split s.given));
    headed = size ∙ s.headed ∙ sym (length-set heads p.parent _);
    few =
        let a = ap (λ (qs : List Pair). length qs) old_split in
        let b = ap (λ (qs : List Pair). length qs) changes.new_is in
        omega (arith, few, sorted_length (all_pairs items units), length-append changes.front changes.rest, length-append changes.front (p ∷ changes.rest));
  }

-- ---- the last one put is taken
no_cons : {A : Type 0} (x : A) (xs : List A) → [] ≡ x ∷ xs → ⊥
no_cons x xs e = absurd (cc)

never_empty : (bs : List Pair) (p : Pair) → [] ≡ bs ++ p ∷ [] → ⊥
never_empty [] p e = no_cons p [] e
never_empty (b ∷ bs) p e = no_cons b (bs ++ p ∷ []) e

insert_some : (q : Pair) (s : List Pair) → insert_pair q s ≡ [] → ⊥
insert_some q s e = let k = ap (λ (qs : List Pair). length qs) e in omega (arith, insert_length q s)

last_known : (bs : List Pair) (p : Pair) → parent_in (bs ++ p ∷ []) p.child ≡ None → ⊥
last_known [] p e = some_no (sym (ap (λ b. cond b (Some p.parent) None) (same_self p.child)) ∙ e)
  where
    some_no : Some p.parent ≡ None → ⊥
    some_no z = cc
last_known (b ∷ bs) p e = cases (last_known bs p) (same_node b.child p.child) e
  where
    cases : (parent_in (bs ++ p ∷ []) p.child ≡ None → ⊥) → (t : Bool) → cond t (Some b.parent) (parent_in (bs ++ p ∷ []) p.child) ≡ None → ⊥
    cases ih true z = cc
    cases ih false z = ih z

-- the pair that is drawn and the one that is last are one
pub drawn_last : (q p : Pair) (s bs : List Pair) → parent_in s p.child ≡ None → insert_pair q s ≡ bs ++ p ∷ [] → (q ≡ p) × (s ≡ bs)
drawn_last q p [] [] a e = (let z : q ≡ p = cc in z, refl)
drawn_last q p [] (b ∷ bs) a e = absurd (never_empty bs p (let z : ◌≡◌ {A = List Pair} [] (bs ++ p ∷ []) = cc in z))
drawn_last q p (r ∷ s) bs a e = cases (λ cs y. drawn_last q p s cs rest y) (ltb q.number r.number) e
  where
    early : (cs : List Pair) → q ∷ r ∷ s ≡ cs ++ p ∷ [] → ⊥
    early [] z = no_cons r s (let y : ◌≡◌ {A = List Pair} [] (r ∷ s) = cc in y)
    early (c ∷ cs) z = let y : r ∷ s ≡ cs ++ p ∷ [] = cc in last_known cs p (sym (ap (λ qs. parent_in qs p.child) y) ∙ a)

    rest : parent_in s p.child ≡ None
    rest = inner (same_node r.child p.child) a
      where
        inner : (t : Bool) → cond t (Some r.parent) (parent_in s p.child) ≡ None → parent_in s p.child ≡ None
        inner true z = cc
        inner false z = z

    late : ((cs : List Pair) → insert_pair q s ≡ cs ++ p ∷ [] → (q ≡ p) × (s ≡ cs)) → (cs : List Pair) → r ∷ insert_pair q s ≡ cs ++ p ∷ [] → (q ≡ p) × (r ∷ s ≡ cs)
    late ih [] z = absurd (insert_some q s (let y : insert_pair q s ≡ [] = cc in y))
    late ih (c ∷ cs) z =
        let y : insert_pair q s ≡ cs ++ p ∷ [] = cc in
        let x : r ≡ c = cc in
        let w = ih cs y in
        (w.0, (λ i. x i ∷ w.1 i))

    cases : ((cs : List Pair) → insert_pair q s ≡ cs ++ p ∷ [] → (q ≡ p) × (s ≡ cs)) → (t : Bool) → cond t (q ∷ r ∷ s) (r ∷ insert_pair q s) ≡ bs ++ p ∷ [] → (q ≡ p) × (r ∷ s ≡ bs)
    cases ih true z = absurd (early bs z)
    cases ih false z = late ih bs z

lower : (last : ℕ) (ps : List Pair) → AllByRecursion (λ q. q.number ≢ last) ps → AllByRecursion (λ q. q.number ≤ last) ps → AllByRecursion (λ q. q.number ≤ last - 1) ps
lower last [] a b = tt
lower last (p ∷ ps) a b = (below p.number a.0 b.0, lower last ps a.1 b.1)
  where
    below : (n : ℕ) → (n ≡ last → ⊥) → n ≤ last → n ≤ last - 1
    below n ne le = omega arith

pub packing_lower : (items units : List Link) (heads : List Head) (last : ℕ) → IsPacking items units heads last → AllByRecursion (λ q. q.number ≢ last) (pairs_of items units) → length (pairs_of items units) + 1 ≤ last → IsPacking items units heads (last - 1)
packing_lower items units heads last s new few = record {
  linked = s.linked;
  numbered = s.numbered;
  given = lower last (all_pairs items units) (all_unsorted (λ (q : Pair). q.number ≢ last) (all_pairs items units) new) s.given;
  headed = s.headed;
  few = omega (arith, few, sorted_length (all_pairs items units));
}

some_some : (u : ℕ) (o : Option ℕ) → o ≡ Some u → IsSome o
some_some u o e = search rules

pub put_there : (bs : List Pair) (p : Pair) (n : Node) → p.child ≡ n → IsSome (parent_in (bs ++ p ∷ []) n)
put_there [] p n e = some_some p.parent _ (ap (λ b. cond b (Some p.parent) None) (same_yes p.child n e))
put_there (b ∷ bs) p n e = cases (put_there bs p n e) (same_node b.child n)
  where
    cases : IsSome (parent_in (bs ++ p ∷ []) n) → (t : Bool) → IsSome (cond t (Some b.parent) (parent_in (bs ++ p ∷ []) n))
    cases ih true = some_some b.parent _ refl
    cases ih false = ih
