-- Turns that move the rows of these names.
use Rattle.std.specs.Prelude.{◌≡◌, List, [], ◌∷◌, Some}
use Rattle.std.specs.List.{slice_get}
use Rattle.epc_urn.specs.declared.epc.Epc.{Epc}
use Rattle.deed_words.specs.Names.{Text}
use Rattle.deed_words.specs.declared.world.Row.{Row}
use Rattle.item_store.specs.declared.row.ItemRow.{ItemRow}
use Rattle.item_store.specs.Rows.{item_name, moved_row, IsLined}
use Rattle.batch_book.specs.Content.{row_in}
use Rattle.site_stores.specs.declared.change.Turn.{Turn}

-- the turn finds the row of the name as it stands, and makes of it what the change makes of it
pub record IsMove (change : Row → Row) (batches : List Text) (rows : List ItemRow) (name : Epc) (turn : Turn) : Type 0 where
  pub row : ItemRow
  pub here : slice_get rows turn.item ≡ Some row
  pub named : item_name row ≡ name
  pub line : row.line ≡ turn.old_line
  pub state : row.state ≡ turn.old_state
  pub old_lined : IsLined turn.old_line turn.old_state
  pub new_lined : IsLined turn.new_line turn.new_state
  pub moved : row_in batches (moved_row row turn.new_line turn.new_state) ≡ change (row_in batches row)

-- a turn for each name
unfoldable pub AreMoves : (Row → Row) → List Text → List ItemRow → List Epc → List Turn → Type 0
AreMoves change batches rows [] [] = Unit {0}
AreMoves change batches rows (name ∷ names) (turn ∷ turns) = IsMove change batches rows name turn × AreMoves change batches rows names turns
AreMoves change batches rows names turns = ⊥
