-- The deed that a JSON value gives, or its first fault.
use Rattle.std.specs.Prelude.{ℕ, List, [], ◌∷◌, ◌++◌, length, Option, Some, None, Result, Ok, Err, option_and_then, codes, if◌then◌else◌, nat_lt, bytes_eq}
use Rattle.serde_json.specs.Data.{Data, Items, no_items, item, Members}
use Rattle.serde_json.specs.Find.{get, as_str, as_number, as_u64, as_array, as_object}
use Rattle.serde_json.specs.Events.{items_len}
use Rattle.gs1_keys.specs.Keys.{is_between, gtin_of, text_of}
use Rattle.gs1_element.specs.Codes.{code_of}
use Rattle.gs1_element.specs.declared.code.Code.{Code}
use Rattle.gs1_element.specs.declared.fault.ElementFault.{ElementFault}
use Rattle.epc_urn.specs.Urns.{urn_of}
use Rattle.epc_urn.specs.declared.epc.Epc.{Epc}
use Rattle.epc_urn.specs.declared.epc.Epc.TheVariants.{Item as OneItem, Unit as OneUnit}
use Rattle.epc_urn.specs.declared.fault.UrnFault.{UrnFault}
use Rattle.deed_words.specs.Names.{Text}
use Rattle.deed_words.specs.declared.words.Level.{Level}
use Rattle.deed_words.specs.declared.words.Level.TheVariants as level
use Rattle.deed_words.specs.declared.deed.OrderRow.{OrderRow}
use Rattle.deed_words.specs.declared.deed.Deed.{Deed}
use Rattle.deed_words.specs.declared.deed.Deed.TheVariants as deed
use Rattle.deed_words.specs.declared.entry.Said.{Said}
use Rattle.site_files.specs.Dates.{expiry_of}
use Rattle.site_files.specs.Due.{◌>>=◌}
use Rattle.site_files.specs.Orders.{orders_of}
use Rattle.site_files.specs.declared.fault.FileFault.{FileFault}
use Rattle.site_files.specs.declared.fault.FileFault.TheVariants as file
use Rattle.deed_json.specs.DeedFaults.{name_of}
use Rattle.deed_json.specs.declared.deed_fault.Member.{Member}
use Rattle.deed_json.specs.declared.deed_fault.Member.TheVariants as member
use Rattle.deed_json.specs.declared.deed_fault.DeedFault.{DeedFault}
use Rattle.deed_json.specs.declared.deed_fault.DeedFault.TheVariants.{NotObject, NoMember, BadMember, BadCode, BadUrn, TooMany, Memory, BadRow}
use Rattle.deed_json.specs.declared.deed_word.DeedWord.{DeedWord}
use Rattle.deed_json.specs.declared.deed_word.DeedWord.TheVariants as word
use Rattle.deed_json.specs.declared.deed_word.BatchWord.{BatchWord}
use Rattle.deed_json.specs.declared.deed_word.BatchWord.TheVariants as of_batch
use Rattle.deed_json.specs.declared.deed_word.UnitWord.{UnitWord}
use Rattle.deed_json.specs.declared.deed_word.UnitWord.TheVariants as of_unit

-- ---- members

-- what stands at a member
abbrev pub or_no_member : Member → Option Data → Result Data DeedFault
or_no_member m None = Err (NoMember m)
or_no_member m (Some d) = Ok d

-- a value of the right kind, or the fault
abbrev pub or_bad_member : {A : Type 0} → Member → Option A → Result A DeedFault
or_bad_member m None = Err (BadMember m)
or_bad_member m (Some a) = Ok a

abbrev pub or_bad : {A E : Type 0} → Member → Result A E → Result A DeedFault
or_bad m (Err e) = Err (BadMember m)
or_bad m (Ok a) = Ok a

unfoldable pub member_of : Member → Data → Result Data DeedFault
member_of m d = or_no_member m (get (name_of m) d)

-- the text at a member
unfoldable pub text_at : Member → Data → Result Text DeedFault
text_at m d = member_of m d >>= (λ v. or_bad_member m (as_str v))

-- .. of 1 to 20 characters, a GTIN, an expiry
unfoldable pub name_at : Member → Data → Result Text DeedFault
name_at m d = text_at m d >>= (λ text. or_bad m (text_of text))

unfoldable pub gtin_at : Data → Result Text DeedFault
gtin_at d = text_at member.Gtin d >>= (λ text. or_bad member.Gtin (gtin_of text))

unfoldable pub expiry_at : Data → Result Text DeedFault
expiry_at d = text_at member.Expiry d >>= (λ text. or_bad_member member.Expiry (expiry_of text))

abbrev pub if_between : ℕ → ℕ → Option ℕ → Option ℕ
if_between low high None = None
if_between low high (Some n) = if is_between low high n then Some n else None

-- the whole number of a range at a member
unfoldable pub number_at : Member → ℕ → ℕ → Data → Result ℕ DeedFault
number_at m low high d = member_of m d >>= (λ v. or_bad_member m (if_between low high (option_and_then as_u64 (as_number v))))

-- a whole number below 2 ^ 32
abbrev pub count_at : Member → Data → Result ℕ DeedFault
count_at m d = number_at m 0 4294967295 d

abbrev pub level_named : Text → Option Level
level_named text = if bytes_eq text (codes "case") then Some level.Case else (if bytes_eq text (codes "pallet") then Some level.Pallet else None)

unfoldable pub level_at : Data → Result Level DeedFault
level_at d = text_at member.Level d >>= (λ text. or_bad_member member.Level (level_named text))

-- the SSCC that a URN names
abbrev pub sscc_in : Epc → Option Text
sscc_in (OneItem gtin serial) = None
sscc_in (OneUnit sscc) = Some sscc

abbrev pub unit_named : {E : Type 0} → Result (Epc × ℕ) E → Result Text DeedFault
unit_named (Err fault) = Err (BadMember member.Unit)
unit_named (Ok named) = or_bad_member member.Unit (sscc_in named.0)

unfoldable pub unit_at : Data → Result Text DeedFault
unit_at d = text_at member.Unit d >>= (λ text. unit_named (urn_of text))

-- ---- lists

-- a list of at most 1,000
abbrev pub if_few : Items → Result Items DeedFault
if_few ds = if nat_lt 1000 (items_len ds) then Err (TooMany (items_len ds)) else Ok ds

unfoldable pub entries_of : Member → Data → Result Items DeedFault
entries_of m d = member_of m d >>= (λ v. or_bad_member m (as_array v) >>= if_few)

-- the code of a scan, an item or unit of a URN, each with the place of a bad one
abbrev pub code_or : ℕ → Result Code ElementFault → Result Code DeedFault
code_or at (Ok code) = Ok code
code_or at (Err fault) = Err (BadCode at fault)

unfoldable pub code_entry : ℕ → Data → Result Code DeedFault
code_entry at d = or_bad_member member.Codes (as_str d) >>= (λ text. code_or at (code_of text))

abbrev pub epc_or : ℕ → Result (Epc × ℕ) UrnFault → Result Epc DeedFault
epc_or at (Ok named) = Ok named.0
epc_or at (Err fault) = Err (BadUrn at fault)

unfoldable pub epc_entry : Member → ℕ → Data → Result Epc DeedFault
epc_entry m at d = or_bad_member m (as_str d) >>= (λ text. epc_or at (urn_of text))

unfoldable pub serial_entry : Data → Result Text DeedFault
serial_entry d = or_bad_member member.Serials (as_str d) >>= (λ text. or_bad member.Serials (text_of text))

-- the entries so far, and those that are left
unfoldable pub codes_after : List Code → Items → Result (List Code) DeedFault
codes_after seen no_items = Ok seen
codes_after seen (item d ds) = code_entry (length seen) d >>= (λ code. codes_after (seen ++ code ∷ []) ds)

unfoldable pub epcs_after : Member → List Epc → Items → Result (List Epc) DeedFault
epcs_after m seen no_items = Ok seen
epcs_after m seen (item d ds) = epc_entry m (length seen) d >>= (λ epc. epcs_after m (seen ++ epc ∷ []) ds)

unfoldable pub serials_after : List Text → Items → Result (List Text) DeedFault
serials_after seen no_items = Ok seen
serials_after seen (item d ds) = serial_entry d >>= (λ serial. serials_after (seen ++ serial ∷ []) ds)

unfoldable pub codes_at : Data → Result (List Code) DeedFault
codes_at d = entries_of member.Codes d >>= codes_after []

unfoldable pub epcs_at : Member → Data → Result (List Epc) DeedFault
epcs_at m d = entries_of m d >>= epcs_after m []

unfoldable pub serials_at : Data → Result (List Text) DeedFault
serials_at d = entries_of member.Serials d >>= serials_after []

-- ---- orders

unfoldable pub order_at : Data → Result OrderRow DeedFault
order_at d = do
  batch ← name_at member.Batch d
  gtin ← gtin_at d
  lot ← name_at member.Lot d
  expiry ← expiry_at d
  quantity ← number_at member.Quantity 1 1000000 d
  case_size ← number_at member.Case 1 1000 d
  pallet_size ← number_at member.Pallet 0 1000 d
  Ok (record { batch = batch; gtin = gtin; lot = lot; expiry = expiry; quantity = quantity; case_size = case_size; pallet_size = pallet_size })

-- an order file's fault; it has rows, too many of them, or wants memory
abbrev pub row_fault : FileFault → DeedFault
row_fault (file.Row line column) = BadRow line column
row_fault (file.TooMany w) = TooMany 1001
row_fault other = Memory

abbrev pub rows_or : Result (List OrderRow) FileFault → Result (List OrderRow) DeedFault
rows_or (Ok rows) = Ok rows
rows_or (Err fault) = Err (row_fault fault)

unfoldable pub rows_at : Data → Result (List OrderRow) DeedFault
rows_at d = text_at member.Csv d >>= (λ text. rows_or (orders_of text))

-- ---- deeds

-- the word that a text is
unfoldable pub word_of : Text → Option DeedWord
word_of text =
    if bytes_eq text (codes "order") then Some word.Order
    else if bytes_eq text (codes "orders") then Some word.Orders
    else if bytes_eq text (codes "start") then Some (word.OfBatch of_batch.Start)
    else if bytes_eq text (codes "draw") then Some (word.OfBatch of_batch.Draw)
    else if bytes_eq text (codes "lend") then Some (word.OfBatch of_batch.Lend)
    else if bytes_eq text (codes "commission") then Some (word.OfBatch of_batch.Commission)
    else if bytes_eq text (codes "spoil") then Some (word.OfBatch of_batch.Spoil)
    else if bytes_eq text (codes "giveback") then Some (word.OfBatch of_batch.Giveback)
    else if bytes_eq text (codes "sample") then Some (word.OfBatch of_batch.Sample)
    else if bytes_eq text (codes "reject") then Some (word.OfBatch of_batch.Reject)
    else if bytes_eq text (codes "reinstate") then Some (word.OfBatch of_batch.Reinstate)
    else if bytes_eq text (codes "destroy") then Some (word.OfBatch of_batch.Destroy)
    else if bytes_eq text (codes "decommission") then Some (word.OfBatch of_batch.Decommission)
    else if bytes_eq text (codes "container") then Some (word.OfBatch of_batch.Container)
    else if bytes_eq text (codes "pack") then Some (word.OfUnit of_unit.Pack)
    else if bytes_eq text (codes "unpack") then Some (word.OfUnit of_unit.Unpack)
    else if bytes_eq text (codes "unpack_all") then Some (word.OfUnit of_unit.UnpackAll)
    else if bytes_eq text (codes "seal") then Some (word.OfUnit of_unit.Seal)
    else if bytes_eq text (codes "unseal") then Some (word.OfUnit of_unit.Unseal)
    else if bytes_eq text (codes "void") then Some (word.OfUnit of_unit.Void)
    else if bytes_eq text (codes "declare") then Some (word.OfBatch of_batch.Declare)
    else if bytes_eq text (codes "close") then Some (word.OfBatch of_batch.Close)
    else if bytes_eq text (codes "amend") then Some (word.OfBatch of_batch.Amend)
    else None

-- what a deed names beside its batch: nothing, a number, serials or items
abbrev pub with_count : (ℕ → Deed) → Data → Result Deed DeedFault
with_count make d = do
  count ← count_at member.Count d
  Ok (make count)

abbrev pub with_serials : (List Text → Deed) → Data → Result Deed DeedFault
with_serials make d = do
  serials ← serials_at d
  Ok (make serials)

abbrev pub with_items : (List Epc → Deed) → Data → Result Deed DeedFault
with_items make d = do
  items ← epcs_at member.Items d
  Ok (make items)

unfoldable pub deed_of_batch : BatchWord → Text → Data → Result Deed DeedFault
deed_of_batch of_batch.Start batch d = Ok (deed.Start batch)
deed_of_batch of_batch.Draw batch d = with_count (deed.Draw batch) d
deed_of_batch of_batch.Lend batch d = with_count (deed.Lend batch) d
deed_of_batch of_batch.Commission batch d = do
  scans ← codes_at d
  Ok (deed.Commission batch scans)
deed_of_batch of_batch.Spoil batch d = with_serials (deed.Spoil batch) d
deed_of_batch of_batch.Giveback batch d = with_serials (deed.Giveback batch) d
deed_of_batch of_batch.Sample batch d = with_items (deed.Sample batch) d
deed_of_batch of_batch.Reject batch d = with_items (deed.Reject batch) d
deed_of_batch of_batch.Reinstate batch d = with_items (deed.Reinstate batch) d
deed_of_batch of_batch.Destroy batch d = with_items (deed.Destroy batch) d
deed_of_batch of_batch.Decommission batch d = with_items (deed.Decommission batch) d
deed_of_batch of_batch.Container batch d = do
  level ← level_at d
  Ok (deed.Container batch level)
deed_of_batch of_batch.Declare batch d = do
  good ← count_at member.Good d
  spoiled ← count_at member.Spoiled d
  returned ← count_at member.Returned d
  Ok (deed.Declare batch good spoiled returned)
deed_of_batch of_batch.Close batch d = Ok (deed.Close batch)
deed_of_batch of_batch.Amend batch d = do
  quantity ← number_at member.Quantity 1 1000000 d
  Ok (deed.Amend batch quantity)

-- what a deed names beside its unit: nothing or children
abbrev pub with_children : (List Epc → Deed) → Data → Result Deed DeedFault
with_children make d = do
  children ← epcs_at member.Children d
  Ok (make children)

unfoldable pub deed_of_unit : UnitWord → Text → Data → Result Deed DeedFault
deed_of_unit of_unit.Pack unit d = with_children (deed.Pack unit) d
deed_of_unit of_unit.Unpack unit d = with_children (deed.Unpack unit) d
deed_of_unit of_unit.UnpackAll unit d = Ok (deed.UnpackAll unit)
deed_of_unit of_unit.Seal unit d = Ok (deed.Seal unit)
deed_of_unit of_unit.Unseal unit d = Ok (deed.Unseal unit)
deed_of_unit of_unit.Void unit d = Ok (deed.Void unit)

-- the deed of a word, its members in order
unfoldable pub deed_of_word : DeedWord → Data → Result Deed DeedFault
deed_of_word word.Order d = do
  row ← order_at d
  Ok (deed.Order row)
deed_of_word word.Orders d = do
  rows ← rows_at d
  Ok (deed.Orders rows)
deed_of_word (word.OfBatch w) d = name_at member.Batch d >>= (λ batch. deed_of_batch w batch d)
deed_of_word (word.OfUnit w) d = unit_at d >>= (λ unit. deed_of_unit w unit d)

-- the operator, where the deed names one
abbrev pub operator_in : Option Data → Result (Option Text) DeedFault
operator_in None = Ok None
operator_in (Some v) = or_bad_member member.Operator (as_str v) >>= (λ text. or_bad member.Operator (text_of text) >>= (λ name. Ok (Some name)))

unfoldable pub operator_at : Data → Result (Option Text) DeedFault
operator_at d = operator_in (get (codes "operator") d)

-- what is said: the deed and then its operator
unfoldable pub said_by_word : DeedWord → Data → Result Said DeedFault
said_by_word w d = do
  deed ← deed_of_word w d
  operator ← operator_at d
  Ok (record { deed = deed; operator = operator })

abbrev pub if_object : {A : Type 0} → Option Members → Result A DeedFault → Result A DeedFault
if_object None due = Err NotObject
if_object (Some ms) due = due

-- what a value says, or its first fault
unfoldable pub said_of : Data → Result Said DeedFault
said_of d = if_object (as_object d) (text_at member.Do d >>= (λ text. or_bad_member member.Do (word_of text) >>= (λ w. said_by_word w d)))

-- ---- the word of a deed

-- the word by which JSON asks for a deed
unfoldable pub deed_word : Deed → Text
deed_word (deed.Order row) = codes "order"
deed_word (deed.Orders rows) = codes "orders"
deed_word (deed.Start name) = codes "start"
deed_word (deed.Draw name count) = codes "draw"
deed_word (deed.Lend name count) = codes "lend"
deed_word (deed.Commission name printed) = codes "commission"
deed_word (deed.Spoil name serials) = codes "spoil"
deed_word (deed.Giveback name serials) = codes "giveback"
deed_word (deed.Sample name items) = codes "sample"
deed_word (deed.Reject name items) = codes "reject"
deed_word (deed.Reinstate name items) = codes "reinstate"
deed_word (deed.Destroy name items) = codes "destroy"
deed_word (deed.Decommission name items) = codes "decommission"
deed_word (deed.Container name level) = codes "container"
deed_word (deed.Pack unit children) = codes "pack"
deed_word (deed.Unpack unit children) = codes "unpack"
deed_word (deed.UnpackAll unit) = codes "unpack_all"
deed_word (deed.Seal unit) = codes "seal"
deed_word (deed.Unseal unit) = codes "unseal"
deed_word (deed.Void unit) = codes "void"
deed_word (deed.Declare name good spoiled returned) = codes "declare"
deed_word (deed.Close name) = codes "close"
deed_word (deed.Amend name quantity) = codes "amend"
