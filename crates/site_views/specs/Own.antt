-- What a batch has, by number.
use Rattle.std.specs.Prelude.{ℕ, Bool, not, ◌&&◌, eqb, List, Option}
use Rattle.std.specs.List.{list_any}
use Rattle.deed_words.specs.Names.{Text}
use Rattle.deed_words.specs.Chain.{when}
use Rattle.deed_words.specs.Accounts.{is_case}
use Rattle.deed_words.specs.Moves.{is_void}
use Rattle.deed_words.specs.declared.words.Level.{Level}
use Rattle.deed_words.specs.declared.words.Level.TheVariants.{Case, Pallet}
use Rattle.item_store.specs.declared.row.ItemRow.{ItemRow}
use Rattle.item_store.specs.Rows.{is_lent_to, line_counts_of}
use Rattle.pack_tree.specs.declared.node.UnitRow.{UnitRow}
use Rattle.pack_tree.specs.Units.{batch_in}
use Rattle.batch_report.specs.declared.view.LineRow.{LineRow}
use Rattle.batch_report.specs.Views.{is_pallet}

-- the unit is of the level, and isn't void
unfoldable pub is_in_use : Level → UnitRow → Bool
is_in_use Case unit = is_case unit.level && not (is_void unit.mark)
is_in_use Pallet unit = is_pallet unit.level && not (is_void unit.mark)

-- and it is the batch's
abbrev pub is_own : ℕ → Level → UnitRow → Bool
is_own batch level unit = eqb (batch_in unit) batch && is_in_use level unit

-- what the line of that name made of the serials of the batch, where it was lent any
unfoldable pub row_of_line : ℕ → List ItemRow → ℕ → Text → Option LineRow
row_of_line batch rows line name = when (list_any (is_lent_to batch line) rows) (record { name = name; numbers = line_counts_of batch line rows })
