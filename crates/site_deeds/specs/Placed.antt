-- Rows that a deed moves, by place.
use Rattle.std.specs.Prelude.{◌≡◌, ℕ, true, is_some, List, [], ◌∷◌, Option, Some}
use Rattle.std.specs.List.{slice_get}
use Rattle.deed_words.specs.Moves.{moved}
use Rattle.deed_words.specs.Names.{Text}
use Rattle.deed_words.specs.declared.deed.Deed.{Deed}
use Rattle.deed_words.specs.declared.words.State.TheVariants.{Lent}
use Rattle.item_store.specs.declared.row.ItemRow.{ItemRow}
use Rattle.item_store.specs.Rows.{IsLined}
use Rattle.pack_tree.specs.declared.node.Node.{Node}
use Rattle.pack_tree.specs.declared.node.Node.TheVariants.{Item as AnItem}
use Rattle.site_stores.specs.declared.change.Turn.{Turn}

-- there is a row at the place, and the deed may move it
pub record CanMove (deed : Deed) (rows : List ItemRow) (place : Option Node) : Type 0 where
  pub item : ℕ
  pub row : ItemRow
  pub place_is : place ≡ Some (AnItem item)
  pub there : slice_get rows item ≡ Some row
  pub moves : is_some (moved deed row.state) ≡ true

-- the turn moves the row at the place, as it stands, as the deed does
pub record IsTurnOf (deed : Deed) (rows : List ItemRow) (place : Option Node) (turn : Turn) : Type 0 where
  pub row : ItemRow
  pub place_is : place ≡ Some (AnItem turn.item)
  pub there : slice_get rows turn.item ≡ Some row
  pub line : row.line ≡ turn.old_line
  pub state : row.state ≡ turn.old_state
  pub lined : IsLined row.line row.state
  pub kept : turn.new_line ≡ turn.old_line
  pub moves : moved deed turn.old_state ≡ Some turn.new_state

-- a turn for each place
unfoldable pub AreTurnsOf : Deed → List ItemRow → List (Option Node) → List Turn → Type 0
AreTurnsOf deed rows [] [] = Unit {0}
AreTurnsOf deed rows (place ∷ places) (turn ∷ turns) = IsTurnOf deed rows place turn × AreTurnsOf deed rows places turns
AreTurnsOf deed rows places turns = ⊥

-- the turn lends the row at the place, as it stands, to the line, and this is its serial
pub record IsLent (line : ℕ) (rows : List ItemRow) (item : ℕ) (turn : Turn) (serial : Text) : Type 0 where
  pub row : ItemRow
  pub item_is : turn.item ≡ item
  pub there : slice_get rows item ≡ Some row
  pub old_line : row.line ≡ turn.old_line
  pub old_state : row.state ≡ turn.old_state
  pub lined : IsLined row.line row.state
  pub new_line : turn.new_line ≡ Some line
  pub new_state : turn.new_state ≡ Lent
  pub serial_is : row.serial ≡ serial

-- a turn and a serial for each place
unfoldable pub AreLent : ℕ → List ItemRow → List ℕ → List Turn → List Text → Type 0
AreLent line rows [] [] [] = Unit {0}
AreLent line rows (item ∷ items) (turn ∷ turns) (serial ∷ serials) = IsLent line rows item turn serial × AreLent line rows items turns serials
AreLent line rows items turns serials = ⊥
