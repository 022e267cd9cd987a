-- Each pair's child and unit are there.
use Rattle.std.proofs.Common.{◌≡◌, ℕ, Bool, true, false, cond, List, [], ◌∷◌, length, Some, None, refl, sym, ap, subst, ◌∙◌, All, suc, zero, arith}
use Rattle.std.specs.List.{AllByRecursion}
use Rattle.pack_tree.specs.declared.link.Pair.{Pair}
use Rattle.pack_tree.specs.declared.link.Link.{Link}
use Rattle.pack_tree.specs.declared.link.Head.{Head}
use Rattle.pack_tree.specs.Pairs.{same_node, parent_in, IsOnce}
use Rattle.pack_tree.specs.Packing.{HasRoom, IsPacking, IsThereIn}
use Rattle.pack_tree.specs.Numbers.{pairs_of}
use Rattle.pack_tree.proofs.Nodes.{same_self, node_is}
use Rattle.pack_tree.proofs.PairLists.{parent_inside}
use Rattle.pack_tree.proofs.Steps.{child_room}

none_some : (u : ℕ) → Some u ≡ None → ⊥
none_some u e = cc

behind : (q : Pair) (ps : List Pair) → parent_in ps q.child ≡ None → (rs : List Pair) → AllByRecursion (λ p. parent_in ps p.child ≡ Some p.parent) rs → AllByRecursion (λ p. parent_in (q ∷ ps) p.child ≡ Some p.parent) rs
behind q ps none [] a = tt
behind q ps none (r ∷ rs) a = (cases (same_node q.child r.child) refl, behind q ps none rs a.1)
  where
    cases : (t : Bool) → same_node q.child r.child ≡ t → cond t (Some q.parent) (parent_in ps r.child) ≡ Some r.parent
    cases true e = absurd (none_some r.parent (sym a.0 ∙ ap (parent_in ps) (sym (node_is q.child r.child e)) ∙ none))
    cases false e = a.0

owned : (ps : List Pair) → IsOnce ps → AllByRecursion (λ p. parent_in ps p.child ≡ Some p.parent) ps
owned [] o = tt
owned (q ∷ ps) o = (ap (λ b. cond b (Some q.parent) (parent_in ps q.child)) (same_self q.child), behind q ps o.0 ps (owned ps o.1))

at_each : (P Q : Pair → Type 0) → ((p : Pair) → P p → Q p) → (ps : List Pair) → AllByRecursion P ps → All Q ps
at_each P Q f [] a k d l = absurd (omega (arith, l))
at_each P Q f (p ∷ ps) a zero d l = f p a.0
at_each P Q f (p ∷ ps) a (suc k) d l = at_each P Q f ps a.1 k d (omega (arith, l))

pub all_there : (items units : List Link) (heads : List Head) (last : ℕ) → IsPacking items units heads last → All (IsThereIn (length items) (length heads)) (pairs_of items units)
all_there items units heads last s =
    let ps = pairs_of items units in
    at_each (λ (p : Pair). parent_in ps p.child ≡ Some p.parent) (IsThereIn (length items) (length heads)) (λ p e.
    record {
      parent = s.linked.known p.child p.parent e;
      child = subst (λ (n : ℕ). HasRoom (length items) n p.child) s.headed (child_room items units heads ps s.linked p.parent p.child (parent_inside ps p.child p.parent e));
    }) ps (owned ps s.linked.once)
