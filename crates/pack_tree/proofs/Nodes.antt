-- Nodes, and which of them pairs name.
use Rattle.std.proofs.Common.{◌≡◌, ◌⊎◌, Bool, true, false, List, [], ◌∷◌, refl, sym, ap, ◌∙◌, inl, inr, true≢false}
use borrow.Author.Tests.{eqb-true, eq-eqb}
use Rattle.pack_tree.specs.declared.node.Node.{Node}
use Rattle.pack_tree.specs.declared.node.Node.TheVariants.{Item as AnItem, Unit as AUnit}
use Rattle.pack_tree.specs.Children.{In}
use Rattle.pack_tree.specs.Pairs.{same_node}

pub same_self : (a : Node) → same_node a a ≡ true
same_self (AnItem a) = eq-eqb a a refl
same_self (AUnit a) = eq-eqb a a refl

pub node_is : (a b : Node) → same_node a b ≡ true → a ≡ b
node_is (AnItem a) (AnItem b) e = ap AnItem (eqb-true a b e)
node_is (AnItem a) (AUnit b) e = cc
node_is (AUnit a) (AnItem b) e = cc
node_is (AUnit a) (AUnit b) e = ap AUnit (eqb-true a b e)

-- a node is another, or isn't
pub node_cases : (a b : Node) → (a ≡ b) ⊎ (a ≡ b → ⊥)
node_cases a b = cases (same_node a b) refl
  where
    cases : (t : Bool) → same_node a b ≡ t → (a ≡ b) ⊎ (a ≡ b → ⊥)
    cases true e = inl (node_is a b e)
    cases false e = inr (λ f. absurd (true≢false (sym (sym (ap (same_node a) f) ∙ same_self a) ∙ e)))

pub same_no : (a b : Node) → (a ≡ b → ⊥) → same_node a b ≡ false
same_no a b ne = cases (same_node a b) refl
  where
    cases : (t : Bool) → same_node a b ≡ t → t ≡ false
    cases true e = absurd (ne (node_is a b e))
    cases false e = refl

pub same_yes : (a b : Node) → a ≡ b → same_node a b ≡ true
same_yes a b e = sym (ap (same_node a) e) ∙ same_self a

abbrev pub Distinct : List Node → Type 0
Distinct [] = Unit {0}
Distinct (n ∷ ns) = (In n ns → ⊥) × Distinct ns
