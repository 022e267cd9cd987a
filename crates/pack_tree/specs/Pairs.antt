-- What a contract says of pairs.
use Rattle.std.specs.Prelude.{◌≡◌, ℕ, Bool, false, eqb, cond, List, [], ◌∷◌, Option, None, Some}
use Rattle.pack_tree.specs.declared.node.Node.{Node}
use Rattle.pack_tree.specs.declared.node.Node.TheVariants.{Item as AnItem, Unit as AUnit}
use Rattle.pack_tree.specs.declared.link.Pair.{Pair}

abbrev pub same_node : Node → Node → Bool
same_node (AnItem a) (AnItem b) = eqb a b
same_node (AnItem a) (AUnit b) = false
same_node (AUnit a) (AnItem b) = false
same_node (AUnit a) (AUnit b) = eqb a b

-- the parent in the child's pair
abbrev pub parent_in : List Pair → Node → Option ℕ
parent_in [] child = None
parent_in (pair ∷ pairs) child = cond (same_node pair.child child) (Some pair.parent) (parent_in pairs child)

-- the children in the parent's pairs, the one longest inside first
abbrev pub inside : ℕ → List Pair → List Node
inside parent [] = []
inside parent (pair ∷ pairs) = cond (eqb pair.parent parent) (pair.child ∷ inside parent pairs) (inside parent pairs)

-- the pairs without the child's
abbrev pub without : Node → List Pair → List Pair
without child [] = []
without child (pair ∷ pairs) = cond (same_node pair.child child) (without child pairs) (pair ∷ without child pairs)

-- no child is in two pairs
abbrev pub IsOnce : List Pair → Type 0
IsOnce [] = Unit {0}
IsOnce (pair ∷ pairs) = (parent_in pairs pair.child ≡ None) × IsOnce pairs
