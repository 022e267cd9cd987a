-- The pairs that links make, in the order of their numbers.
use Rattle.std.specs.Prelude.{◌≢◌, ℕ, ◌+◌, cond, nat_lt, List, [], ◌∷◌, ◌++◌, Option, None, Some}
use Rattle.std.specs.List.{AllByRecursion}
use Rattle.pack_tree.specs.declared.node.Node.{Node}
use Rattle.pack_tree.specs.declared.node.Node.TheVariants.{Item as AnItem, Unit as AUnit}
use Rattle.pack_tree.specs.declared.link.Pair.{Pair}
use Rattle.pack_tree.specs.declared.link.Link.{Link}

abbrev pub item_node : ℕ → Node
item_node at = AnItem (at)

abbrev pub unit_node : ℕ → Node
unit_node at = AUnit (at)

-- a node's pair, where it has one
abbrev pub pair_of : Node → Option ℕ → ℕ → List Pair
pair_of node None number = []
pair_of node (Some parent) number = record { child = node; parent = parent; number = number } ∷ []

-- the pairs of links that stand from a number on
abbrev pub pairs_from : (ℕ → Node) → ℕ → List Link → List Pair
pairs_from node at [] = []
pairs_from node at (link ∷ links) = pair_of (node at) link.parent link.number ++ pairs_from node (at + 1) links

abbrev pub insert_pair : Pair → List Pair → List Pair
insert_pair pair [] = pair ∷ []
insert_pair pair (p ∷ pairs) = cond (nat_lt pair.number p.number) (pair ∷ p ∷ pairs) (p ∷ insert_pair pair pairs)

abbrev pub sorted : List Pair → List Pair
sorted [] = []
sorted (pair ∷ pairs) = insert_pair pair (sorted pairs)

abbrev pub all_pairs : List Link → List Link → List Pair
all_pairs items units = pairs_from item_node 0 items ++ pairs_from unit_node 0 units

-- the pairs in the order in which they were put
abbrev pub pairs_of : List Link → List Link → List Pair
pairs_of items units = sorted (all_pairs items units)

-- no two pairs have one number
abbrev pub AreNumbered : List Pair → Type 0
AreNumbered [] = Unit {0}
AreNumbered (pair ∷ pairs) = AllByRecursion (λ p. p.number ≢ pair.number) pairs × AreNumbered pairs
