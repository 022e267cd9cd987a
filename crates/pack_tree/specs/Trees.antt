-- What a contract sees of a tree, and its invariant.
use Rattle.std.specs.Prelude.{ℕ, ◌≤◌, List, length}
use Rattle.std.specs.List.{AllByRecursion}
use Rattle.pack_tree.specs.declared.link.Pair.{Pair}
use Rattle.pack_tree.specs.declared.node.UnitRow.{UnitRow}
use Rattle.pack_tree.specs.Packing.{Packed, IsThereIn}
use Rattle.pack_tree.specs.Units.{Shelf}

-- the pairs in the order in which they were put, the last number given, how many items there are, the units in the order in which they were made,
-- and how many items and units have room in all
pub record Forest : Type 0 where
  pub pairs : List Pair
  pub last : ℕ
  pub items : ℕ
  pub units : List UnitRow
  pub item_room : ℕ
  pub unit_room : ℕ

-- what stands in what
abbrev pub packed_of : Forest → Packed
packed_of tree = record { pairs = tree.pairs; last = tree.last; items = tree.items; units = length tree.units }

-- there is room for what is there, and what is packed is there
pub record IsTree (packing : Packed) (items item_room : ℕ) (units : Shelf) : Type 0 where
  pub items_within : items ≤ item_room
  pub items_fit : item_room ≤ packing.items
  pub units_fit : units.room ≤ packing.units
  pub units_within : length units.rows ≤ units.room
  pub there : AllByRecursion (IsThereIn items (length units.rows)) packing.pairs
