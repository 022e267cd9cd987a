-- The fields of entries.
use Rattle.std.specs.Prelude.{ℕ, List, length, Option, Some, None, Ok, if◌then◌else◌, ◌==◌}
use Rattle.std.specs.Result.{result_ok}
use Rattle.std.specs.Int.{w16, w32}
use Rattle.gs1_keys.specs.Keys.{gtin_of, sscc_of, text_of}
use Rattle.gs1_element.specs.Dates.{is_expiry}
use Rattle.gs1_element.specs.declared.code.Code.{Code}
use Rattle.epc_urn.specs.declared.epc.Epc.{Epc}
use Rattle.epc_urn.specs.declared.epc.Epc.TheVariants as epc
use Rattle.deed_words.specs.declared.words.Level.{Level}
use Rattle.deed_words.specs.declared.words.Level.TheVariants as level
use Rattle.deed_words.specs.declared.deed.OrderRow.{OrderRow}
use Rattle.entry_bytes.specs.declared.version.Version.{Version}
use Rattle.entry_bytes.specs.declared.version.Version.TheVariants.{First, Second}
use Rattle.entry_bytes.specs.Reading.{◌>>=◌, Reader, one, two, byte_at, number_at, ranged, cut, fixed}

abbrev pub pair : {X Y : Type 0} → X → Y → X × Y
pair x y = (x, y)

-- so many characters of a text whose field begins where `left` bytes are left
unfoldable pub characters_at : ℕ → ℕ → Reader (List ℕ)
characters_at left n rest = cut (λ x. result_ok (text_of x)) left n rest

unfoldable pub text_at : Reader (List ℕ)
text_at bytes = ranged 1 20 byte_at bytes >>= λ n. characters_at (length bytes) n.0 n.1

unfoldable pub gtin_at : Reader (List ℕ)
gtin_at bytes = fixed (λ x. result_ok (gtin_of x)) 14 bytes

unfoldable pub sscc_at : Reader (List ℕ)
sscc_at bytes = fixed (λ x. result_ok (sscc_of x)) 18 bytes

abbrev pub expiry_of : List ℕ → Option (List ℕ)
expiry_of text = if is_expiry text then Some text else None

unfoldable pub expiry_at : Reader (List ℕ)
expiry_at bytes = fixed expiry_of 6 bytes

-- none in version 1; in version 2 a length of 0 means none
unfoldable pub operator_at : Version → Reader (Option (List ℕ))
operator_at First bytes = Ok (None, bytes)
operator_at Second bytes = ranged 0 20 byte_at bytes >>= λ n. if n.0 == 0 then Ok (None, n.1) else one Some (characters_at (length bytes) n.0) n.1

unfoldable pub level_at : Reader Level
level_at bytes = ranged 1 2 byte_at bytes >>= λ k. Ok (if k.0 == 1 then level.Case else level.Pallet, k.1)

unfoldable pub epc_at : Reader Epc
epc_at bytes = ranged 1 2 byte_at bytes >>= λ k. if k.0 == 1 then two epc.Item gtin_at text_at k.1 else one epc.Unit sscc_at k.1

abbrev pub make_code : List ℕ → List ℕ × (List ℕ × List ℕ) → Code
make_code gtin tail = record { gtin = gtin; serial = tail.0; lot = tail.1.0; expiry = tail.1.1 }

unfoldable pub code_at : Reader Code
code_at bytes = two make_code gtin_at (two pair text_at (two pair text_at expiry_at)) bytes

abbrev pub make_row : List ℕ → List ℕ × (List ℕ × (List ℕ × (ℕ × (ℕ × ℕ)))) → OrderRow
make_row batch tail = record { batch = batch; gtin = tail.0; lot = tail.1.0; expiry = tail.1.1.0; quantity = tail.1.1.1.0; case_size = tail.1.1.1.1.0; pallet_size = tail.1.1.1.1.1 }

unfoldable pub quantity_at : Reader ℕ
quantity_at bytes = ranged 1 1000000 (number_at w32) bytes

unfoldable pub case_size_at : Reader ℕ
case_size_at bytes = ranged 1 1000 (number_at w16) bytes

unfoldable pub pallet_size_at : Reader ℕ
pallet_size_at bytes = ranged 0 1000 (number_at w16) bytes

unfoldable pub row_at : Reader OrderRow
row_at bytes = two make_row text_at (two pair gtin_at (two pair text_at (two pair expiry_at (two pair quantity_at (two pair case_size_at pallet_size_at))))) bytes
