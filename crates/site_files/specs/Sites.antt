-- The setup that a site file gives, or its first fault.
use Rattle.std.specs.Prelude.{ℕ, ◌+◌, ◌-◌, ◌^◌, ◌==◌, ◌&&◌, ℤ, pos, negsuc, List, [], ◌∷◌, ◌++◌, length, Bool, Option, Some, None, Result, Ok, Err, option_map, codes, if◌then◌else◌, bytes_eq, nat_lt, nat_le}
use Rattle.std.specs.List.{list_any}
use Rattle.std.specs.Str.{is_utf8}
use Rattle.toml.specs.Data.{Data, Items, no_items, item, table, get, as_str, as_integer, as_array, as_table}
use Rattle.toml.specs.Parse.{parse_document}
use Rattle.gs1_keys.specs.Keys.{gln_of, gtin_of, prefix_of, text_of}
use Rattle.gs1_keys.specs.Forms.{is_form}
use Rattle.gs1_keys.specs.declared.fault.KeyFault.{KeyFault}
use Rattle.gs1_keys.specs.declared.form.Alphabet.{Alphabet}
use Rattle.gs1_keys.specs.declared.form.Alphabet.TheVariants.{Digits, Base32}
use Rattle.gs1_keys.specs.declared.form.SerialForm.{SerialForm}
use Rattle.deed_words.specs.Names.{Text, same}
use Rattle.deed_words.specs.Setups.{Setup, begins_with, is_offset}
use Rattle.deed_words.specs.declared.setup.Product.{Product}
use Rattle.deed_words.specs.declared.setup.Station.{Station}
use Rattle.deed_words.specs.declared.words.Role.{Role}
use Rattle.deed_words.specs.declared.words.Role.TheVariants.{Planner, Line, Quality}
use Rattle.site_files.specs.Due.{◌>>=◌}
use Rattle.site_files.specs.Words.{word_text}
use Rattle.site_files.specs.declared.fault.Word.{Word}
use Rattle.site_files.specs.declared.fault.Word.TheVariants as word
use Rattle.site_files.specs.declared.fault.FileFault.{FileFault}
use Rattle.site_files.specs.declared.fault.FileFault.TheVariants.{Unreadable, NoField, BadField, Twice, TooMany}

-- ---- the file as a table

-- what `toml` reads from these bytes, as one value, and None where it refuses them
unfoldable pub toml_of : List ℕ → Option Data
toml_of bytes = if is_utf8 bytes then option_map table (parse_document bytes) else None

-- ---- fields

abbrev pub or_no_field : {A : Type 0} → Word → Option A → Result A FileFault
or_no_field w None = Err (NoField w)
or_no_field w (Some a) = Ok a

abbrev pub or_bad_field : {A : Type 0} → Word → Option A → Result A FileFault
or_bad_field w None = Err (BadField w)
or_bad_field w (Some a) = Ok a

-- a key or text that was read, or the fault
abbrev pub or_bad_key : {A : Type 0} → Word → Result A KeyFault → Result A FileFault
or_bad_key w (Err e) = Err (BadField w)
or_bad_key w (Ok a) = Ok a

-- the field of this word
unfoldable pub field_of : Word → Data → Result Data FileFault
field_of w d = or_no_field w (get (word_text w) d)

abbrev pub if_table : Data → Option Data
if_table d = option_map (λ _. d) (as_table d)

-- a part that is a table
unfoldable pub part_of : Word → Data → Result Data FileFault
part_of w d = field_of w d >>= (λ v. or_bad_field w (if_table v))

-- the text of a field
unfoldable pub text_field : Word → Data → Result Text FileFault
text_field w d = field_of w d >>= (λ v. or_bad_field w (as_str v))

-- a whole number from one bound to below another
abbrev pub within : ℕ → ℕ → Option ℤ → Option ℕ
within low end None = None
within low end (Some (pos n)) = if nat_le low n && nat_lt n end then Some n else None
within low end (Some (negsuc n)) = None

unfoldable pub number_field : Word → ℕ → ℕ → Data → Result ℕ FileFault
number_field w low end d = field_of w d >>= (λ v. or_bad_field w (within low end (as_integer v)))

unfoldable pub gln_field : Data → Result Text FileFault
gln_field d = text_field word.Gln d >>= (λ text. or_bad_key word.Gln (gln_of text))

unfoldable pub prefix_field : Data → Result Text FileFault
prefix_field d = text_field word.Prefix d >>= (λ text. or_bad_key word.Prefix (prefix_of text))

unfoldable pub gtin_field : Data → Result Text FileFault
gtin_field d = text_field word.Gtin d >>= (λ text. or_bad_key word.Gtin (gtin_of text))

unfoldable pub name_field : Data → Result Text FileFault
name_field d = text_field word.Name d >>= (λ text. or_bad_key word.Name (text_of text))

-- the location number begins with the prefix; where the prefix is missing or wrong, that is told before it
unfoldable pub keys_of : Data → Result (Text × Text) FileFault
keys_of d = do
  gln ← gln_field d
  prefix ← prefix_field d
  if begins_with prefix gln then Ok (gln, prefix) else Err (BadField word.Gln)

abbrev pub offset_text : Text → Option Text
offset_text text = if is_offset text then Some text else None

unfoldable pub offset_field : Data → Result Text FileFault
offset_field d = text_field word.Offset d >>= (λ text. or_bad_field word.Offset (offset_text text))

-- ---- products

-- the alphabet that a text names
abbrev pub alphabet_named : Option Text → Result Alphabet FileFault
alphabet_named None = Err (BadField word.SerialAlphabet)
alphabet_named (Some text) =
    if bytes_eq text (codes "digits") then Ok Digits
    else (if bytes_eq text (codes "base32") then Ok Base32 else Err (BadField word.SerialAlphabet))

-- a product that says nothing of its alphabet has digits
abbrev pub alphabet_in : Option Data → Result Alphabet FileFault
alphabet_in None = Ok Digits
alphabet_in (Some d) = alphabet_named (as_str d)

-- the form of a product's serials
unfoldable pub form_of : Data → Result SerialForm FileFault
form_of d = do
  length ← number_field word.SerialLength 6 19 d
  alphabet ← alphabet_in (get (codes "serial_alphabet") d)
  if is_form (record { alphabet = alphabet; length = length }) then Ok (record { alphabet = alphabet; length = length }) else Err (BadField word.SerialAlphabet)

-- the product of an entry
unfoldable pub product_in : Data → Result Product FileFault
product_in d = do
  gtin ← gtin_field d
  prefix_length ← number_field word.PrefixLength 6 13 d
  form ← form_of d
  Ok (record { gtin = gtin; prefix_length = prefix_length; form = form })

unfoldable pub product_entry : Data → Result Product FileFault
product_entry d = or_bad_field word.Product (if_table d) >>= product_in

abbrev pub has_gtin : Text → List Product → Bool
has_gtin gtin products = list_any (λ product. same gtin product.gtin) products

-- the products so far, and those of the entries that are left
unfoldable pub products_after : List Product → Items → Result (List Product) FileFault
products_after seen no_items = Ok seen
products_after seen (item d ds) = product_entry d >>= (λ p. if has_gtin p.gtin seen then Err (Twice word.Gtin) else products_after (seen ++ p ∷ []) ds)

abbrev pub count_of : Items → ℕ
count_of no_items = 0
count_of (item d ds) = count_of ds + 1

-- a list that is not empty and not too long
abbrev pub counted : Word → ℕ → Items → Result Items FileFault
counted w most ds = if count_of ds == 0 then Err (NoField w) else if nat_lt most (count_of ds) then Err (TooMany w) else Ok ds

-- the entries of a list
unfoldable pub entries_of : Word → ℕ → Data → Result Items FileFault
entries_of w most d = field_of w d >>= (λ v. or_bad_field w (as_array v) >>= counted w most)

-- ---- stations

abbrev pub role_named : Text → Option Role
role_named text =
    if bytes_eq text (codes "planner") then Some Planner
    else (if bytes_eq text (codes "line") then Some Line
    else (if bytes_eq text (codes "quality") then Some Quality else None))

unfoldable pub role_field : Data → Result Role FileFault
role_field d = text_field word.Role d >>= (λ text. or_bad_field word.Role (role_named text))

-- the station of an entry
unfoldable pub station_in : Data → Result Station FileFault
station_in d = do
  name ← name_field d
  role ← role_field d
  Ok (record { name = name; role = role })

unfoldable pub station_entry : Data → Result Station FileFault
station_entry d = or_bad_field word.Station (if_table d) >>= station_in

abbrev pub has_name : Text → List Station → Bool
has_name name stations = list_any (λ station. same name station.name) stations

-- the stations so far, and those of the entries that are left
unfoldable pub stations_after : List Station → Items → Result (List Station) FileFault
stations_after seen no_items = Ok seen
stations_after seen (item d ds) = station_entry d >>= (λ s. if has_name s.name seen then Err (Twice word.Name) else stations_after (seen ++ s ∷ []) ds)

-- ---- the setup

abbrev pub or_unreadable : {A : Type 0} → Option A → Result A FileFault
or_unreadable None = Err Unreadable
or_unreadable (Some a) = Ok a

-- the setup of a table, or its first fault
unfoldable pub setup_in : Data → Result Setup FileFault
setup_in d = do
  site ← part_of word.Site d
  keys ← keys_of site
  extension ← number_field word.Extension 0 10 site
  reference ← number_field word.Reference 0 (10 ^ (16 - length keys.1)) site
  offset ← offset_field site
  products ← entries_of word.Product 256 d >>= products_after []
  stations ← entries_of word.Station 64 d >>= stations_after []
  Ok (record { gln = keys.0; prefix = keys.1; extension = extension; reference = reference; offset = offset; products = products; stations = stations })

-- the setup of some bytes, or their first fault
unfoldable pub setup_of : List ℕ → Result Setup FileFault
setup_of bytes = or_unreadable (toml_of bytes) >>= setup_in
