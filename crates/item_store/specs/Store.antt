-- The invariant of the rows' store.
use Rattle.std.specs.Prelude.{◌≡◌, ℕ, ◌+◌, ◌<◌, ◌≤◌, List, map, length, slice_index, slice_index_or, slice_set, min, All}
use Rattle.deed_words.specs.declared.words.State.TheVariants.{Fresh}
use Rattle.place_table.specs.Hash.{pair_hash}
use Rattle.place_table.specs.View.{Indexed}
use Rattle.item_store.specs.declared.row.ItemRow.{ItemRow}
use Rattle.row_chains.specs.Chains.{Grouped, NoneIn}
use Rattle.item_store.specs.Rows.{AreApart, IsLined, batches}
use Rattle.item_store.specs.Cells.{state_cell, line_cell, IsTally}

abbrev pub hash_in : ItemRow → ℕ
hash_in row = pair_hash row.gtin row.serial

-- no Fresh row of a batch stands before the batch's cursor
pub record AreBehind (rows : List ItemRow) (cursors : List ℕ) : Type 0 where
  pub behind : (i : ℕ) (d : ItemRow) → i < length rows → i < slice_index cursors (slice_index_or rows i d).batch
      → (slice_index_or rows i d).state ≡ Fresh → ⊥

-- the cursors, where one is no later than a place
abbrev pub back_to : List ℕ → ℕ → ℕ → List ℕ
back_to cursors batch at = slice_set cursors batch (min (slice_index cursors batch) at)

-- the place of the first row of the batch from another place on, or the end
pub record IsReached (rows : List ItemRow) (from batch at : ℕ) : Type 0 where
  pub later : from ≤ at
  pub own : at < length rows → slice_index (batches rows) at ≡ batch
  pub none : NoneIn (batches rows) from at batch

pub record IsStore (rows : List ItemRow) (table : Indexed) (chains : Grouped) (capacity spare : ℕ) (states lines cursors : List ℕ) : Type 0 where
  pub hashed : table.hashes ≡ map hash_in rows
  pub room : spare ≤ table.room
  pub grouped : chains.groups ≡ batches rows
  pub chained : spare ≤ chains.room
  pub reserved : length rows + spare ≤ capacity
  pub few : length rows + spare ≤ 1000000
  pub apart : AreApart rows
  pub lined : All (λ row. IsLined row.line row.state) rows
  pub by_state : IsTally state_cell rows states
  pub by_line : IsTally line_cell rows lines
  pub fresh : AreBehind rows cursors
