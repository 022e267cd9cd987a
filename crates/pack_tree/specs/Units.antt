-- What contracts say of units.
use Rattle.std.specs.Prelude.{◌≡◌, ℕ, zero, suc, ◌+◌, ◌<◌, ◌≤◌, ◌^◌, Bool, List, [], ◌∷◌, map, length, Option}
use Rattle.std.specs.List.{IsDistinct}
use Rattle.deed_words.specs.Names.{Text, same}
use Rattle.deed_words.specs.declared.words.Level.{Level}
use Rattle.deed_words.specs.declared.words.Mark.{Mark}
use Rattle.deed_words.specs.declared.words.Mark.TheVariants.{Filling}
use Rattle.place_table.specs.View.{Indexed}
use Rattle.place_table.specs.Hash.{text_hash}
use Rattle.pack_tree.specs.declared.node.UnitRow.{UnitRow}
use Rattle.pack_tree.specs.Chains.{IsChain}

-- the units in the order in which they were made, and how many have room in all
pub record Shelf : Type 0 where
  pub rows : List UnitRow
  pub room : ℕ

-- the SSCC and the batch of a unit
abbrev pub code_in : UnitRow → Text
code_in unit = unit.sscc

abbrev pub batch_in : UnitRow → ℕ
batch_in unit = unit.batch

abbrev pub hash_in : UnitRow → ℕ
hash_in unit = text_hash (code_in unit)

-- the unit has the SSCC
unfoldable pub is_coded : Text → UnitRow → Bool
is_coded sscc unit = same (code_in unit) sscc

-- no two units have one SSCC
abbrev pub AreApart : List UnitRow → Type 0
AreApart units = IsDistinct same (map code_in units)

-- a unit as it is made
abbrev pub new_unit : Text → ℕ → Level → UnitRow
new_unit sscc batch level = record { sscc = sscc; batch = batch; level = level; mark = Filling }

-- the units, where the one at a place has another mark
abbrev pub marked : List UnitRow → ℕ → Mark → List UnitRow
marked [] at mark = []
marked (unit ∷ units) zero mark = record unit { mark = mark } ∷ units
marked (unit ∷ units) (suc at) mark = unit ∷ marked units at mark

-- the invariant
pub record IsShelf (rows : List UnitRow) (table : Indexed) (capacity : ℕ) (latest earlier : List (Option ℕ)) (room : ℕ) : Type 0 where
  pub hashed : table.hashes ≡ map hash_in rows
  pub placed : room ≤ length rows + table.room
  pub reserved : room ≤ capacity
  pub within : length rows ≤ room
  pub few : room < 2 ^ 31
  pub apart : AreApart rows
  pub chain : IsChain (map batch_in rows) latest earlier
  pub wide : 0 < room → 65536 ≤ length latest
  pub long : room ≤ length earlier
