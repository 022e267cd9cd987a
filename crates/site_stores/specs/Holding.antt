-- What the stores of a site hold together.
use Rattle.std.specs.Prelude.{◌≡◌, ℕ, ◌+◌, ◌-◌, ◌<◌, ◌≤◌, length, All}
use Rattle.item_store.specs.Rows.{Store}
use Rattle.item_store.specs.Rows as rows
use Rattle.pack_tree.specs.Packing.{Packed, IsThereIn}
use Rattle.pack_tree.specs.Pairs.{IsOnce}
use Rattle.pack_tree.specs.Trees.{Forest}
use Rattle.pack_tree.specs.Units as units
use Rattle.batch_book.specs.Batches.{AreApart, IsNamed}
use Rattle.batch_book.specs.Content.{Content}
use Rattle.batch_book.specs.Ledgers.{Ledger}

-- how many more of each have room
pub record Room : Type 0 where
  pub batches : ℕ
  pub declarations : ℕ
  pub rows : ℕ
  pub units : ℕ

-- there is at least so much room
pub record IsWithin (need room : Room) : Type 0 where
  pub batches : need.batches ≤ room.batches
  pub declarations : need.declarations ≤ room.declarations
  pub rows : need.rows ≤ room.rows
  pub units : need.units ≤ room.units

pub record Held : Type 0 where
  pub content : Content
  pub room : Room

-- the room that stores have, where so many rows have room in both the rows and the tree
abbrev pub room_of : Ledger → Forest → ℕ → Room
room_of book tree row_room =
    record { batches = book.batch_spare; declarations = book.declaration_spare; rows = row_room; units = tree.unit_room - length tree.units }

-- what stands in what
abbrev pub packed_in : Content → Packed
packed_in c = record { pairs = c.links; last = c.last; items = length c.rows; units = length c.units }

abbrev pub with_packed : Content → Packed → Content
with_packed c p = record c { links = p.pairs; last = p.last }

-- the stores fit one another: each batch that is named is there, the tree has as many items as there are rows, and there is room for what is there
pub record AreOne (book : Ledger) (items : Store) (tree : Forest) (row_room : ℕ) : Type 0 where
  pub rows : All (λ row. row.batch < length book.batches) items.rows
  pub units : All (λ unit. unit.batch < length book.batches) tree.units
  pub counted : tree.items ≡ length items.rows
  pub reserved : row_room ≤ items.spare
  pub roomy : length items.rows + row_room ≤ tree.item_room
  pub within : length tree.units ≤ tree.unit_room
  pub few : length items.rows + row_room ≤ 1000000

-- what the stores keep true of all that they hold
pub record IsWhole (c : Content) : Type 0 where
  pub batches_apart : AreApart c.batches
  pub batches_named : All IsNamed c.batches
  pub rows_apart : rows.AreApart c.rows
  pub units_apart : units.AreApart c.units
  pub rows : All (λ row. row.batch < length c.batches) c.rows
  pub units : All (λ unit. unit.batch < length c.batches) c.units
  pub said : All (λ said. said.batch < length c.batches) c.said
  pub once : IsOnce c.links
  pub there : All (IsThereIn (length c.rows) (length c.units)) c.links
