-- Running counts over rows.
use Rattle.std.specs.Prelude.{◌≡◌, ℕ, ◌+◌, ◌-◌, ◌*◌, ◌<◌, eqb, nat_lt, cond, List, Option, None, Some, length, slice_index, slice_set, count_by}
use Rattle.item_store.specs.declared.row.ItemRow.{ItemRow}
use Rattle.item_store.specs.Rows.{state_code, line_class}

-- the cell of a row's batch and state
abbrev pub state_cell : ItemRow → ℕ
state_cell row = row.batch * 8 + state_code row.state

-- the cell of a batch, a line and what its rows are for it: for lines from 64 on one that isn't kept
abbrev pub pair_cell : ℕ → ℕ → ℕ → ℕ
pair_cell batch line class = cond (nat_lt line 64) ((batch * 64 + line) * 4 + class) 16777216

abbrev pub cell_to : ℕ → Option ℕ → ℕ → ℕ
cell_to batch None class = 16777216
cell_to batch (Some line) class = pair_cell batch line class

-- the cell of a row's batch and line and what it is for the line
abbrev pub line_cell : ItemRow → ℕ
line_cell row = cell_to row.batch row.line (line_class row.state)

-- each cell that is kept counts the rows of it
pub record IsTally (cell : ItemRow → ℕ) (rows : List ItemRow) (cells : List ℕ) : Type 0 where
  pub each : (at : ℕ) → at < length cells → slice_index cells at ≡ count_by (λ row. eqb (cell row) at) rows

-- one more, or one fewer, at a cell
abbrev pub raised : List ℕ → ℕ → List ℕ
raised cells at = slice_set cells at (slice_index cells at + 1)

abbrev pub lowered : List ℕ → ℕ → List ℕ
lowered cells at = slice_set cells at (slice_index cells at - 1)
