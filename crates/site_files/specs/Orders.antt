-- The rows of an order file, or its first fault.
use Rattle.std.specs.Prelude.{ℕ, ◌+◌, ◌==◌, ◌&&◌, List, [], ◌∷◌, ◌++◌, length, Bool, Option, Some, None, Result, Ok, Err, codes, if◌then◌else◌, bytes_eq, unwrap_or}
use Rattle.csv.specs.Reading.{default_config, records, strip_bom}
use Rattle.csv.specs.Records.{field_at}
use Rattle.gs1_keys.specs.Keys.{gtin_of, text_of}
use Rattle.deed_words.specs.declared.deed.OrderRow.{OrderRow}
use Rattle.site_files.specs.Due.{◌>>=◌}
use Rattle.site_files.specs.Dates.{expiry_of}
use Rattle.site_files.specs.Numbers.{size_of}
use Rattle.site_files.specs.declared.fault.Word.TheVariants as word
use Rattle.site_files.specs.declared.fault.FileFault.{FileFault}
use Rattle.site_files.specs.declared.fault.FileFault.TheVariants.{Row, TooMany}

-- the records that `csv` reads from these bytes: its default quotes, no trimming, of any length
unfoldable pub csv_of : List ℕ → List (List (List ℕ))
csv_of bytes = records default_config (strip_bom bytes)

-- the field at a place, and no bytes where there is none
abbrev pub field : List (List ℕ) → ℕ → List ℕ
field fields i = unwrap_or (field_at fields i) []

abbrev pub or_row : {A : Type 0} → ℕ → ℕ → Option A → Result A FileFault
or_row line column None = Err (Row line column)
or_row line column (Some a) = Ok a

abbrev pub or_row_of : {A E : Type 0} → ℕ → ℕ → Result A E → Result A FileFault
or_row_of line column (Err e) = Err (Row line column)
or_row_of line column (Ok a) = Ok a

-- the row of a record of seven fields
unfoldable pub row_in : ℕ → List (List ℕ) → Result OrderRow FileFault
row_in line fields = do
  batch ← or_row_of line 1 (text_of (field fields 0))
  gtin ← or_row_of line 2 (gtin_of (field fields 1))
  lot ← or_row_of line 3 (text_of (field fields 2))
  expiry ← or_row line 4 (expiry_of (field fields 3))
  quantity ← or_row line 5 (size_of 1 1000000 (field fields 4))
  case_size ← or_row line 6 (size_of 1 1000 (field fields 5))
  pallet_size ← or_row line 7 (size_of 0 1000 (field fields 6))
  Ok (record { batch = batch; gtin = gtin; lot = lot; expiry = expiry; quantity = quantity; case_size = case_size; pallet_size = pallet_size })

-- the row of a record
unfoldable pub row_of : ℕ → List (List ℕ) → Result OrderRow FileFault
row_of line fields = if length fields == 7 then row_in line fields else Err (Row line 0)

-- the rows so far, and those of the records that are left; records are counted from 1 with the header
unfoldable pub rows_after : List OrderRow → List (List (List ℕ)) → Result (List OrderRow) FileFault
rows_after seen [] = Ok seen
rows_after seen (r ∷ rs) = if length seen == 1000 then Err (TooMany word.Rows) else row_of (length seen + 2) r >>= (λ row. rows_after (seen ++ row ∷ []) rs)

-- the first record
abbrev pub is_header : List (List ℕ) → Bool
is_header fields =
    (length fields == 7)
    && (bytes_eq (field fields 0) (codes "batch")
    && (bytes_eq (field fields 1) (codes "gtin")
    && (bytes_eq (field fields 2) (codes "lot")
    && (bytes_eq (field fields 3) (codes "expiry")
    && (bytes_eq (field fields 4) (codes "quantity")
    && (bytes_eq (field fields 5) (codes "case")
    && bytes_eq (field fields 6) (codes "pallet")))))))

unfoldable pub orders_in : List (List (List ℕ)) → Result (List OrderRow) FileFault
orders_in [] = Err (Row 1 0)
orders_in (r ∷ rs) = if is_header r then rows_after [] rs else Err (Row 1 0)

-- the rows of some bytes, or the first fault
abbrev pub orders_of : List ℕ → Result (List OrderRow) FileFault
orders_of bytes = orders_in (csv_of bytes)
