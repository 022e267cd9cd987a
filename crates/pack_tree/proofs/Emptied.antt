-- All that stands in a unit is taken out.
use Rattle.std.proofs.Common.{◌≡◌, ℕ, Bool, true, false, cond, eqb, List, [], ◌∷◌, map, Option, None, Some, refl, sym, ap, subst, ◌∙◌, inl, inr, rules}
use Rattle.std.specs.Prelude.{IsSome}
use Rattle.pack_tree.specs.declared.node.Node.{Node}
use Rattle.pack_tree.specs.declared.link.Pair.{Pair}
use Rattle.pack_tree.specs.declared.link.Taken.{Taken}
use Rattle.pack_tree.specs.Pairs.{parent_in, inside, without, IsOnce}
use Rattle.pack_tree.specs.Packing.{Packed}
use Rattle.pack_tree.specs.Many.{CanTake, without_all, without_one}
use Rattle.pack_tree.specs.Children.{In}
use Rattle.pack_tree.proofs.Nodes.{same_self, same_no, Distinct}
use Rattle.pack_tree.proofs.PairLists.{once_without, parent_without, without_none, inside_parent, inside_distinct}

some_is : (o : Option ℕ) (u : ℕ) → o ≡ Some u → IsSome o
some_is o u e = search rules

none_some : (u : ℕ) → Some u ≡ None → ⊥
none_some u e = cc

-- nodes that differ and have a unit may be taken one after the other
pub can_all : (ps : List Pair) (ns : List Node) → IsOnce ps → Distinct ns → ((n : Node) → In n ns → IsSome (parent_in ps n)) → CanTake ps ns
unfolding CanTake
can_all ps [] o d h = tt
can_all ps (n ∷ ns) o d h = (
  h n (inl refl),
  can_all (without n ps) ns (once_without n ps o) d.1 (λ m i.
      subst (λ (p : Option ℕ). IsSome p) (sym (parent_without n ps m o ∙ ap (λ b. cond b None (parent_in ps m)) (same_no n m (λ e. d.0 (subst (λ x. In x ns) (sym e) i))))) (h m (inr i))),
)

pub can_empty : (ps : List Pair) (u : ℕ) → IsOnce ps → CanTake ps (inside u ps)
can_empty ps u o = can_all ps (inside u ps) o (inside_distinct u ps o) (λ n i. let r = inside_parent u ps n o i in some_is (parent_in ps n) r.0 r.1)

-- ---- what is left
abbrev pub without_each : List Node → List Pair → List Pair
without_each [] ps = ps
without_each (n ∷ ns) ps = without_each ns (without n ps)

pub all_gone : (p : Packed) (gone : List Taken) → (without_all p gone).pairs ≡ without_each (map (λ (t : Taken). t.child) gone) p.pairs
all_gone p [] = refl
all_gone p (t ∷ gone) = all_gone (without_one p t) gone

skipped : (ns : List Node) (q : Pair) (ps : List Pair) → (In q.child ns → ⊥) → without_each ns (q ∷ ps) ≡ q ∷ without_each ns ps
skipped [] q ps h = refl
skipped (n ∷ ns) q ps h =
    ap (without_each ns) (ap (λ b. cond b (without n ps) (q ∷ without n ps)) (same_no q.child n (λ e. h (inl (sym e)))))
    ∙ skipped ns q (without n ps) (λ i. h (inr i))

abbrev pub emptied : ℕ → List Pair → List Pair
emptied u [] = []
emptied u (q ∷ ps) = cond (eqb q.parent u) (emptied u ps) (q ∷ emptied u ps)

pub emptied_is : (ps : List Pair) (u : ℕ) → IsOnce ps → without_each (inside u ps) ps ≡ emptied u ps
emptied_is [] u o = refl
emptied_is (q ∷ ps) u o = cases (emptied_is ps u o.1) (eqb q.parent u)
  where
    apart : In q.child (inside u ps) → ⊥
    apart i = let r = inside_parent u ps q.child o.1 i in none_some r.0 (sym r.1 ∙ o.0)

    cases : without_each (inside u ps) ps ≡ emptied u ps → (b : Bool) → without_each (cond b (q.child ∷ inside u ps) (inside u ps)) (q ∷ ps) ≡ cond b (emptied u ps) (q ∷ emptied u ps)
    cases ih true = ap (without_each (inside u ps)) (ap (λ b. cond b (without q.child ps) (q ∷ without q.child ps)) (same_self q.child) ∙ without_none q.child ps o.0) ∙ ih
    cases ih false = skipped (inside u ps) q ps apart ∙ ap (λ xs. q ∷ xs) ih
