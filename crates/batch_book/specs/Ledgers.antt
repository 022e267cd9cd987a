-- What a contract sees of a book, and the invariants of its parts.
use Rattle.std.specs.Prelude.{◌≡◌, ℕ, ◌+◌, ◌^◌, ◌<◌, ◌≤◌, List, map, length, All}
use Rattle.deed_words.specs.declared.world.Batch.{Batch}
use Rattle.place_table.specs.Hash.{text_hash}
use Rattle.place_table.specs.View.{Indexed}
use Rattle.row_chains.specs.Chains.{Grouped}
use Rattle.batch_book.specs.declared.row.DeclarationRow.{DeclarationRow}
use Rattle.batch_book.specs.Batches.{name_in, AreApart, IsNamed}
use Rattle.batch_book.specs.Said.{batches as batches_said}

-- the batches in the order in which they were accepted, the declarations in the order in which they came, and how many more of both have room
pub record Ledger : Type 0 where
  pub batches : List Batch
  pub declarations : List DeclarationRow
  pub batch_spare : ℕ
  pub declaration_spare : ℕ

-- the batches, and how many more have room
pub record Ordered : Type 0 where
  pub batches : List Batch
  pub spare : ℕ

-- the declarations, and how many more have room
pub record Heard : Type 0 where
  pub declarations : List DeclarationRow
  pub spare : ℕ

abbrev pub hash_in : Batch → ℕ
hash_in batch = text_hash (name_in batch)

pub record AreOrdered (batches : List Batch) (table : Indexed) (capacity spare : ℕ) : Type 0 where
  pub hashed : table.hashes ≡ map hash_in batches
  pub room : spare ≤ table.room
  pub reserved : length batches + spare ≤ capacity
  pub few : length batches + spare ≤ 4096
  pub apart : AreApart batches
  pub named : All IsNamed batches

pub record AreHeard (declarations : List DeclarationRow) (chains : Grouped) (capacity spare : ℕ) : Type 0 where
  pub grouped : chains.groups ≡ batches_said declarations
  pub chained : spare ≤ chains.room
  pub reserved : length declarations + spare ≤ capacity
  pub few : length declarations + spare < 2 ^ 31

-- the batch of each declaration is there
abbrev pub AreOfBatches : List Batch → List DeclarationRow → Type 0
AreOfBatches batches declarations = All (λ said. said.batch < length batches) declarations
