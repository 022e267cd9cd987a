-- What a contract says of rows.
use Rattle.std.specs.Prelude.{◌≡◌, ℕ, zero, suc, ◌+◌, ◌&&◌, Bool, false, eqb, cond, List, [], ◌∷◌, map, count_by, Option, None, Some, ◌↔◌}
use Rattle.std.specs.List.{IsDistinct}
use Rattle.epc_urn.specs.declared.epc.Epc.{Epc}
use Rattle.epc_urn.specs.declared.epc.Epc.TheVariants.{Item}
use Rattle.deed_words.specs.Names.{Text, same_name}
use Rattle.deed_words.specs.declared.words.State.{State}
use Rattle.deed_words.specs.declared.words.State.TheVariants.{Fresh, Lent, Returned, Spoiled, Active, Sampled, Rejected, Gone}
use Rattle.item_store.specs.declared.row.ItemRow.{ItemRow}
use Rattle.item_store.specs.declared.row.Counts.{Counts}

-- the rows, and how many more have room
pub record Store : Type 0 where
  pub rows : List ItemRow
  pub spare : ℕ

-- the name of a row
abbrev pub item_name : ItemRow → Epc
item_name row = Item row.gtin row.serial

-- the row is of this name
unfoldable pub is_named : Text → Text → ItemRow → Bool
is_named gtin serial row = same_name (item_name row) (Item gtin serial)

-- no two rows have one name
abbrev pub AreApart : List ItemRow → Type 0
AreApart rows = IsDistinct same_name (map item_name rows)

-- Fresh exactly where there is no line
abbrev pub IsLined : Option ℕ → State → Type 0
IsLined line state = (state ≡ Fresh) ↔ (line ≡ None)

-- a row as it is drawn
abbrev pub fresh_row : Text → Text → ℕ → ItemRow
fresh_row gtin serial batch = record { gtin = gtin; serial = serial; batch = batch; line = None; state = Fresh }

-- the row with another line and state
abbrev pub moved_row : ItemRow → Option ℕ → State → ItemRow
moved_row row line state = record row { line = line; state = state }

-- the rows, where the row at a place has another line and state
abbrev pub changed : List ItemRow → ℕ → Option ℕ → State → List ItemRow
changed [] at line state = []
changed (row ∷ rows) zero line state = moved_row row line state ∷ rows
changed (row ∷ rows) (suc at) line state = row ∷ changed rows at line state

-- the rows, where the row at a place has another state
abbrev pub restated : List ItemRow → ℕ → State → List ItemRow
restated [] at state = []
restated (row ∷ rows) zero state = moved_row row row.line state ∷ rows
restated (row ∷ rows) (suc at) state = row ∷ restated rows at state

-- a state's number
abbrev pub state_code : State → ℕ
state_code Fresh = 0
state_code Lent = 1
state_code Returned = 2
state_code Spoiled = 3
state_code Active = 4
state_code Sampled = 5
state_code Rejected = 6
state_code Gone = 7

-- the row is of the batch
abbrev pub is_of : ℕ → ItemRow → Bool
is_of batch row = eqb row.batch batch

-- the batches of the rows
abbrev pub batch_in : ItemRow → ℕ
batch_in row = row.batch

abbrev pub batches : List ItemRow → List ℕ
batches rows = map batch_in rows

-- the row is in the state
abbrev pub has_state : State → ItemRow → Bool
has_state state row = eqb (state_code row.state) (state_code state)

abbrev pub is_in : ℕ → State → ItemRow → Bool
is_in batch state row = is_of batch row && has_state state row

-- how many rows of the batch have the state
abbrev pub count_in : ℕ → State → List ItemRow → ℕ
count_in batch state rows = count_by (is_in batch state) rows

-- the batch's counts
abbrev pub counts_of : ℕ → List ItemRow → Counts
counts_of batch rows = record {
  drawn = count_by (is_of batch) rows;
  unused = count_in batch Fresh rows + count_in batch Returned rows;
  lent = count_in batch Lent rows;
  commissioned = count_in batch Active rows;
  sampled = count_in batch Sampled rows;
  rejected = count_in batch Rejected rows + count_in batch Spoiled rows;
  destroyed = count_in batch Gone rows;
}

-- the line is the one lent to
abbrev pub is_line : Option ℕ → ℕ → Bool
is_line None line = false
is_line (Some own) line = eqb own line

-- the row is of the batch, and was lent to the line
abbrev pub is_lent_to : ℕ → ℕ → ItemRow → Bool
is_lent_to batch line row = is_of batch row && is_line row.line line

-- what a row is for its line: 0 not told of yet, 1 good, 2 spoiled, 3 returned
abbrev pub line_class : State → ℕ
line_class Fresh = 0
line_class Lent = 0
line_class Active = 1
line_class Sampled = 1
line_class Rejected = 1
line_class Gone = 1
line_class Spoiled = 2
line_class Returned = 3

-- how many rows of the batch are that for the line
abbrev pub count_to : ℕ → ℕ → ℕ → List ItemRow → ℕ
count_to batch line class rows = count_by (λ row. is_lent_to batch line row && eqb (line_class row.state) class) rows

-- the line's rows of the batch that are good, spoiled and returned
abbrev pub line_counts_of : ℕ → ℕ → List ItemRow → List ℕ
line_counts_of batch line rows = count_to batch line 1 rows ∷ count_to batch line 2 rows ∷ count_to batch line 3 rows ∷ []

-- the places, counted from the first number, of the rows that pass
abbrev pub places_of : (ItemRow → Bool) → ℕ → List ItemRow → List ℕ
places_of test from [] = []
places_of test from (row ∷ rows) = cond (test row) (from ∷ places_of test (from + 1) rows) (places_of test (from + 1) rows)

-- the batch's Fresh rows
abbrev pub fresh_places : ℕ → List ItemRow → List ℕ
fresh_places batch rows = places_of (is_in batch Fresh) 0 rows
