-- The bytes of a site: what they mean, or the first fault from the left.
use Rattle.std.specs.Prelude.{ℕ, ◌-◌, ◌^◌, List, [], ◌∷◌, length, Option, Some, None, Result, Ok, Err, if◌then◌else◌, ◌==◌, nat_le}
use Rattle.std.specs.List.{list_any}
use Rattle.std.specs.Result.{result_ok}
use Rattle.std.specs.Int.{w16, w64}
use Rattle.gs1_keys.specs.Keys.{gln_of, prefix_of}
use Rattle.gs1_keys.specs.declared.form.Alphabet.{Alphabet}
use Rattle.gs1_keys.specs.declared.form.Alphabet.TheVariants.{Digits, Base32}
use Rattle.gs1_keys.specs.declared.form.SerialForm.{SerialForm}
use Rattle.deed_words.specs.Names.{same}
use Rattle.deed_words.specs.Setups.{Setup, begins_with, is_offset}
use Rattle.deed_words.specs.declared.setup.Product.{Product}
use Rattle.deed_words.specs.declared.setup.Station.{Station}
use Rattle.deed_words.specs.declared.words.Role.{Role}
use Rattle.deed_words.specs.declared.words.Role.TheVariants.{Planner, Line, Quality}
use Rattle.entry_bytes.specs.declared.fault.Stop.TheVariants.{BadField}
use Rattle.entry_bytes.specs.declared.fault.EntryFault.{EntryFault}
use Rattle.entry_bytes.specs.declared.version.Version.{Version}
use Rattle.entry_bytes.specs.declared.version.Version.TheVariants.{First, Second}
use Rattle.entry_bytes.specs.Reading.{◌>>=◌, Reader, one, two, two_after, many_after, byte_at, number_at, ranged, below, cut, fixed}
use Rattle.entry_bytes.specs.Fields.{pair, text_at, gtin_at}
use Rattle.entry_bytes.specs.Deeds.{whole}

unfoldable pub gln_at : Reader (List ℕ)
gln_at bytes = fixed (λ x. result_ok (gln_of x)) 13 bytes

-- a prefix with which the location number begins
abbrev pub if_begins : List ℕ → Option (List ℕ) → Option (List ℕ)
if_begins gln None = None
if_begins gln (Some prefix) = if begins_with prefix gln then Some prefix else None

abbrev pub prefix_for : List ℕ → List ℕ → Option (List ℕ)
prefix_for gln digits = if_begins gln (result_ok (prefix_of digits))

-- one field, which begins at its length byte
unfoldable pub prefix_at : List ℕ → Reader (List ℕ)
prefix_at gln bytes = ranged 6 12 byte_at bytes >>= λ n. cut (prefix_for gln) (length bytes) n.0 n.1

unfoldable pub extension_at : Reader ℕ
extension_at bytes = ranged 0 9 byte_at bytes

-- a reference that has its place beside the prefix
unfoldable pub reference_at : List ℕ → Reader ℕ
reference_at prefix bytes = below (10 ^ (16 - length prefix)) (number_at w64) bytes

abbrev pub offset_of : List ℕ → Option (List ℕ)
offset_of text = if is_offset text then Some text else None

unfoldable pub offset_at : Reader (List ℕ)
offset_at bytes = fixed offset_of 6 bytes

abbrev pub make_form : ℕ → Alphabet → SerialForm
make_form length alphabet = record { alphabet = alphabet; length = length }

unfoldable pub serial_length_at : Reader ℕ
serial_length_at bytes = ranged 6 18 byte_at bytes

-- 1 for digits, and 2 for the 32 characters, of which there are at most 12
unfoldable pub alphabet_at : ℕ → Reader Alphabet
alphabet_at serial_length bytes = ranged 1 2 byte_at bytes >>= λ k. if k.0 == 1 then Ok (Digits, k.1) else (if nat_le serial_length 12 then Ok (Base32, k.1) else Err (BadField (length bytes)))

-- digits in version 1, which has no field for the alphabet
unfoldable pub form_at : Version → Reader SerialForm
form_at First bytes = one (λ n. make_form n Digits) serial_length_at bytes
form_at Second bytes = two_after make_form serial_length_at alphabet_at bytes

unfoldable pub prefix_length_at : Reader ℕ
prefix_length_at bytes = ranged 6 12 byte_at bytes

-- a GTIN that no product before has
unfoldable pub new_gtin_at : List Product → Reader (List ℕ)
new_gtin_at before bytes = gtin_at bytes >>= λ g. if list_any (λ product. same g.0 product.gtin) before then Err (BadField (length bytes)) else Ok g

abbrev pub make_product : List ℕ → ℕ × SerialForm → Product
make_product gtin tail = record { gtin = gtin; prefix_length = tail.0; form = tail.1 }

unfoldable pub product_at : Version → List Product → Reader Product
product_at version before bytes = two make_product (new_gtin_at before) (two pair prefix_length_at (form_at version)) bytes

-- 1 to 256 products
unfoldable pub products_at : Version → Reader (List Product)
products_at version bytes = ranged 1 256 (number_at w16) bytes >>= λ n. many_after (product_at version) [] n.0 n.1

-- a name that no station before has
unfoldable pub new_name_at : List Station → Reader (List ℕ)
new_name_at before bytes = text_at bytes >>= λ t. if list_any (λ station. same t.0 station.name) before then Err (BadField (length bytes)) else Ok t

abbrev pub role_of_byte : ℕ → Role
role_of_byte byte = if byte == 1 then Planner else (if byte == 2 then Line else Quality)

unfoldable pub role_at : Reader Role
role_at bytes = ranged 1 3 byte_at bytes >>= λ k. Ok (role_of_byte k.0, k.1)

abbrev pub make_station : List ℕ → Role → Station
make_station name role = record { name = name; role = role }

unfoldable pub station_at : List Station → Reader Station
station_at before bytes = two make_station (new_name_at before) role_at bytes

-- 1 to 64 stations
unfoldable pub stations_at : Reader (List Station)
stations_at bytes = ranged 1 64 byte_at bytes >>= λ n. many_after station_at [] n.0 n.1

abbrev pub make_setup : List ℕ → List ℕ × (ℕ × (ℕ × (List ℕ × (List Product × List Station)))) → Setup
make_setup gln tail = record { gln = gln; prefix = tail.0; extension = tail.1.0; reference = tail.1.1.0; offset = tail.1.1.1.0; products = tail.1.1.1.1.0; stations = tail.1.1.1.1.1 }

unfoldable pub after_prefix : Version → List ℕ → Reader (ℕ × (ℕ × (List ℕ × (List Product × List Station))))
after_prefix version prefix bytes = two pair extension_at (two pair (reference_at prefix) (two pair offset_at (two pair (products_at version) stations_at))) bytes

unfoldable pub after_gln : Version → List ℕ → Reader (List ℕ × (ℕ × (ℕ × (List ℕ × (List Product × List Station)))))
after_gln version gln bytes = two_after pair (prefix_at gln) (after_prefix version) bytes

unfoldable pub parts_at : Version → Reader Setup
parts_at version bytes = two_after make_setup gln_at (after_gln version) bytes

-- site bytes of version 2 begin with a byte 2, and those of version 1 with a digit
abbrev pub version_at : List ℕ → Version × List ℕ
version_at [] = (First, [])
version_at (b ∷ rest) = if b == 2 then (Second, rest) else (First, b ∷ rest)

unfoldable pub setup_at : Reader Setup
setup_at bytes = parts_at (version_at bytes).0 (version_at bytes).1

unfoldable pub setup_of : List ℕ → Result Setup EntryFault
setup_of bytes = whole (length bytes) (setup_at bytes)
