-- How the serials that were drawn, and their numbers a GTIN, are found.
use Rattle.std.specs.Prelude.{◌≡◌, ◌+◌, ◌≤◌, ℕ, List, map, find, length, bytes_eq}
use Rattle.std.specs.Option.{option_map_or}
use Rattle.place_table.specs.Hash.{text_hash, pair_hash}
use Rattle.place_table.specs.View.{Indexed}
use Rattle.gs1_keys.specs.Forms.{is_among, AreDistinct}
use Rattle.serial_pool.specs.declared.drawn.DrawnSerial.{DrawnSerial}
use Rattle.serial_pool.specs.declared.tally.GtinCount.{GtinCount}
use Rattle.serial_pool.specs.Held.{drawn_count}

abbrev pub hash_in : DrawnSerial → ℕ
hash_in pair = pair_hash pair.gtin pair.serial

abbrev pub gtins_of : List GtinCount → List (List ℕ)
gtins_of rows = map (λ row. row.gtin) rows

-- how many serials the GTIN has
abbrev pub count_of : List ℕ → List GtinCount → ℕ
count_of gtin rows = option_map_or (λ row. row.drawn) (find (λ row. bytes_eq gtin row.gtin) rows) 0

-- the rows are found by the hashes of their GTINs, and no GTIN has two
pub record IsTally (rows : List GtinCount) (table : Indexed) : Type 0 where
  pub hashed : table.hashes ≡ map (λ row. text_hash row.gtin) rows
  pub apart : AreDistinct (gtins_of rows)

-- what a pool keeps beside what was drawn: an index, a number for each GTIN, and the room
pub record IsKept (pairs : List DrawnSerial) (table : Indexed) (rows : List GtinCount) (room capacity : ℕ) : Type 0 where
  pub hashed : table.hashes ≡ map hash_in pairs
  pub counted : (gtin : List ℕ) → count_of gtin rows ≡ drawn_count gtin pairs
  pub roomy : room ≤ table.room
  pub reserved : length pairs + room ≤ capacity
