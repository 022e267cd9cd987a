-- What a contract sees of a packing, and its invariant.
use Rattle.std.specs.Prelude.{◌≡◌, ℕ, ◌<◌, ◌≤◌, List, ◌++◌, length, slice_set}
use Rattle.std.specs.List.{AllByRecursion}
use Rattle.pack_tree.specs.declared.node.Node.{Node}
use Rattle.pack_tree.specs.declared.node.Node.TheVariants.{Item as AnItem, Unit as AUnit}
use Rattle.pack_tree.specs.declared.link.Pair.{Pair}
use Rattle.pack_tree.specs.declared.link.Link.{Link}
use Rattle.pack_tree.specs.declared.link.Head.{Head}
use Rattle.pack_tree.specs.Links.{link_of, AreLinked}
use Rattle.pack_tree.specs.Numbers.{all_pairs, pairs_of, AreNumbered}

-- the pairs in the order in which they were put, the last number given, and below which numbers items and units have room
pub record Packed : Type 0 where
  pub pairs : List Pair
  pub last : ℕ
  pub items : ℕ
  pub units : ℕ

-- a child's pair with its parent
abbrev pub put_pair : Node → ℕ → ℕ → Pair
put_pair child parent number = record { child = child; parent = parent; number = number }

-- the node is below the room
abbrev pub HasRoom : ℕ → ℕ → Node → Type 0
HasRoom items units (AnItem item) = item < items
HasRoom items units (AUnit unit) = unit < units

abbrev pub items_with : List Link → Node → Link → List Link
items_with items (AnItem item) link = slice_set items item link
items_with items (AUnit unit) link = items

abbrev pub units_with : List Link → Node → Link → List Link
units_with units (AnItem item) link = units
units_with units (AUnit unit) link = slice_set units unit link

pub record IsPacking (items units : List Link) (heads : List Head) (last : ℕ) : Type 0 where
  pub linked : AreLinked (link_of items units) heads (pairs_of items units)
  pub numbered : AreNumbered (all_pairs items units)
  pub given : AllByRecursion (λ p. p.number ≤ last) (all_pairs items units)
  pub headed : length units ≡ length heads
  pub few : length (all_pairs items units) ≤ last

-- the pairs of one node changed
pub record ChangesPairs (old new : List Pair) (gone come : List Pair) : Type 0 where
  pub front : List Pair
  pub rest : List Pair
  pub old_is : old ≡ front ++ (gone ++ rest)
  pub new_is : new ≡ front ++ (come ++ rest)

-- its child and its unit are there
pub record IsThereIn (items units : ℕ) (pair : Pair) : Type 0 where
  pub child : HasRoom items units pair.child
  pub parent : pair.parent < units
