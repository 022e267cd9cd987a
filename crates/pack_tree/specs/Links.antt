-- How the links agree with the pairs.
use Rattle.std.specs.Prelude.{◌≡◌, ℕ, ◌<◌, cond, List, [], ◌∷◌, length, slice_index_or, Option, None, Some}
use Rattle.pack_tree.specs.declared.node.Node.{Node}
use Rattle.pack_tree.specs.declared.node.Node.TheVariants.{Item as AnItem, Unit as AUnit}
use Rattle.pack_tree.specs.declared.link.Pair.{Pair}
use Rattle.pack_tree.specs.declared.link.Link.{Link}
use Rattle.pack_tree.specs.declared.link.Head.{Head}
use Rattle.pack_tree.specs.Pairs.{same_node, parent_in, inside, IsOnce}

abbrev pub free_link : Link
free_link = record { parent = None; previous = None; next = None; number = 0 }

abbrev pub empty_head : Head
empty_head = record { first = None; last = None; count = 0 }

-- a node's link, of the items' and the units'
abbrev pub link_of : List Link → List Link → Node → Link
link_of items units (AnItem item) = slice_index_or items item free_link
link_of items units (AUnit unit) = slice_index_or units unit free_link

abbrev pub head_of : List Head → ℕ → Head
head_of heads unit = slice_index_or heads unit empty_head

-- following the links from a node, reached from the one before it, gives the nodes and comes to another node, reached from the one before that
abbrev pub Leads : (Node → Link) → Option Node → Option Node → List Node → Option Node → Option Node → Type 0
Leads links before from [] last to = (before ≡ last) × (from ≡ to)
Leads links before from (node ∷ nodes) last to =
    (from ≡ Some node) × ((links node).previous ≡ before) × Leads links (Some node) (links node).next nodes last to

-- the links, where one node has another link, next or previous
abbrev pub with_link : (Node → Link) → Node → Link → Node → Link
with_link links node link at = cond (same_node node at) link (links at)

abbrev pub with_next : (Node → Link) → Option Node → Option Node → Node → Link
with_next links None next at = links at
with_next links (Some node) next at = cond (same_node node at) (record (links at) { next = next }) (links at)

abbrev pub with_previous : (Node → Link) → Option Node → Option Node → Node → Link
with_previous links None previous at = links at
with_previous links (Some node) previous at = cond (same_node node at) (record (links at) { previous = previous }) (links at)

-- the first if there is one, or else the second
abbrev pub or_else : Option Node → Option Node → Option Node
or_else None other = other
or_else (Some node) other = Some node

-- the second where the first is none, or else the third
abbrev pub where_none : Option Node → Option Node → Option Node → Option Node
where_none None a b = a
where_none (Some node) a b = b

-- each node's parent is that of its pair, and each unit's links give its children in the order of the pairs
pub record AreLinked (links : Node → Link) (heads : List Head) (pairs : List Pair) : Type 0 where
  pub once : IsOnce pairs
  pub parents : (node : Node) → (links node).parent ≡ parent_in pairs node
  pub chains : (unit : ℕ) → unit < length heads → Leads links None (head_of heads unit).first (inside unit pairs) (head_of heads unit).last None
  pub counts : (unit : ℕ) → unit < length heads → (head_of heads unit).count ≡ length (inside unit pairs)
  pub known : (node : Node) (unit : ℕ) → parent_in pairs node ≡ Some unit → unit < length heads
