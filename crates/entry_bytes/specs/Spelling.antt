-- How groups of entries are spelled, in each version.
use Rattle.std.specs.Prelude.{ℕ, ◌+◌, List, [], ◌∷◌, ◌++◌, length, Option, Some, None}
use Rattle.std.specs.List.{flat_map}
use Rattle.std.specs.Int.{w16, w32, w64, to_be_bytes}
use Rattle.gs1_element.specs.declared.code.Code.{Code}
use Rattle.epc_urn.specs.declared.epc.Epc.{Epc}
use Rattle.epc_urn.specs.declared.epc.Epc.TheVariants as epc
use Rattle.deed_words.specs.declared.words.Level.{Level}
use Rattle.deed_words.specs.declared.words.Level.TheVariants as level
use Rattle.deed_words.specs.declared.deed.OrderRow.{OrderRow}
use Rattle.deed_words.specs.declared.deed.Deed.{Deed}
use Rattle.deed_words.specs.declared.deed.Deed.TheVariants as deed
use Rattle.deed_words.specs.declared.entry.Entry.{Entry}
use Rattle.entry_bytes.specs.declared.kind.DeedKind.{DeedKind}
use Rattle.entry_bytes.specs.declared.kind.DeedKind.TheVariants as kind
use Rattle.entry_bytes.specs.declared.version.Version.{Version}
use Rattle.entry_bytes.specs.declared.version.Version.TheVariants.{First, Second}
use Rattle.entry_bytes.specs.Deeds.{tag_of}

-- a length byte and the characters
abbrev pub text_bytes : List ℕ → List ℕ
text_bytes text = length text ∷ text

-- version 1 has no field for an operator, and version 2 has a length of 0 where there is none
abbrev pub operator_in : Version → Option (List ℕ) → List ℕ
operator_in First operator = []
operator_in Second None = 0 ∷ []
operator_in Second (Some name) = text_bytes name

abbrev pub level_bytes : Level → List ℕ
level_bytes level.Case = 1 ∷ []
level_bytes level.Pallet = 2 ∷ []

abbrev pub epc_bytes : Epc → List ℕ
epc_bytes (epc.Item gtin serial) = 1 ∷ (gtin ++ text_bytes serial)
epc_bytes (epc.Unit sscc) = 2 ∷ sscc

abbrev pub code_bytes : Code → List ℕ
code_bytes c = c.gtin ++ (text_bytes c.serial ++ (text_bytes c.lot ++ c.expiry))

abbrev pub row_bytes : OrderRow → List ℕ
row_bytes r = text_bytes r.batch ++ (r.gtin ++ (text_bytes r.lot ++ (r.expiry ++ (to_be_bytes w32 r.quantity ++ (to_be_bytes w16 r.case_size ++ to_be_bytes w16 r.pallet_size)))))

-- a count of 16 bits, and the items
abbrev pub list_bytes : {X : Type 0} → (X → List ℕ) → List X → List ℕ
list_bytes item xs = to_be_bytes w16 (length xs) ++ flat_map item xs

-- the kind of a deed
abbrev pub kind_in : Deed → DeedKind
kind_in (deed.Order a) = kind.Order
kind_in (deed.Orders a) = kind.Orders
kind_in (deed.Start a) = kind.Start
kind_in (deed.Draw a b) = kind.Draw
kind_in (deed.Lend a b) = kind.Lend
kind_in (deed.Commission a b) = kind.Commission
kind_in (deed.Spoil a b) = kind.Spoil
kind_in (deed.Giveback a b) = kind.Giveback
kind_in (deed.Sample a b) = kind.Sample
kind_in (deed.Reject a b) = kind.Reject
kind_in (deed.Reinstate a b) = kind.Reinstate
kind_in (deed.Destroy a b) = kind.Destroy
kind_in (deed.Decommission a b) = kind.Decommission
kind_in (deed.Container a b) = kind.Container
kind_in (deed.Pack a b) = kind.Pack
kind_in (deed.Unpack a b) = kind.Unpack
kind_in (deed.UnpackAll a) = kind.UnpackAll
kind_in (deed.Seal a) = kind.Seal
kind_in (deed.Unseal a) = kind.Unseal
kind_in (deed.Void a) = kind.Void
kind_in (deed.Declare a b c d) = kind.Declare
kind_in (deed.Close a) = kind.Close
kind_in (deed.Amend a b) = kind.Amend

-- three declared numbers
unfoldable pub numbers_bytes : ℕ → ℕ → ℕ → List ℕ
numbers_bytes good spoiled returned = to_be_bytes w32 good ++ (to_be_bytes w32 spoiled ++ to_be_bytes w32 returned)

-- the fields of a deed
abbrev pub fields_bytes : Deed → List ℕ
fields_bytes (deed.Order row) = row_bytes row
fields_bytes (deed.Orders rows) = list_bytes row_bytes rows
fields_bytes (deed.Start batch) = text_bytes batch
fields_bytes (deed.Draw batch count) = text_bytes batch ++ to_be_bytes w32 count
fields_bytes (deed.Lend batch count) = text_bytes batch ++ to_be_bytes w32 count
fields_bytes (deed.Commission batch codes) = text_bytes batch ++ list_bytes code_bytes codes
fields_bytes (deed.Spoil batch serials) = text_bytes batch ++ list_bytes text_bytes serials
fields_bytes (deed.Giveback batch serials) = text_bytes batch ++ list_bytes text_bytes serials
fields_bytes (deed.Sample batch items) = text_bytes batch ++ list_bytes epc_bytes items
fields_bytes (deed.Reject batch items) = text_bytes batch ++ list_bytes epc_bytes items
fields_bytes (deed.Reinstate batch items) = text_bytes batch ++ list_bytes epc_bytes items
fields_bytes (deed.Destroy batch items) = text_bytes batch ++ list_bytes epc_bytes items
fields_bytes (deed.Decommission batch items) = text_bytes batch ++ list_bytes epc_bytes items
fields_bytes (deed.Container batch level) = text_bytes batch ++ level_bytes level
fields_bytes (deed.Pack unit children) = unit ++ list_bytes epc_bytes children
fields_bytes (deed.Unpack unit children) = unit ++ list_bytes epc_bytes children
fields_bytes (deed.UnpackAll unit) = unit
fields_bytes (deed.Seal unit) = unit
fields_bytes (deed.Unseal unit) = unit
fields_bytes (deed.Void unit) = unit
fields_bytes (deed.Declare batch good spoiled returned) = text_bytes batch ++ numbers_bytes good spoiled returned
fields_bytes (deed.Close batch) = text_bytes batch
fields_bytes (deed.Amend batch quantity) = text_bytes batch ++ to_be_bytes w32 quantity

-- a deed, begun by its tag
unfoldable pub deed_bytes : Deed → List ℕ
deed_bytes d = tag_of (kind_in d) ∷ fields_bytes d

-- who asked, the number, who served it and when
unfoldable pub head_bytes : Entry → List ℕ
head_bytes e = (e.station ∷ []) ++ (to_be_bytes w64 e.number ++ ((e.worker ∷ []) ++ to_be_bytes w64 e.stamp))

abbrev pub entry_in : Version → Entry → List ℕ
entry_in version e = head_bytes e ++ (operator_in version e.operator ++ (deed_bytes e.deed ++ list_bytes text_bytes e.drawn))

-- the count byte of so many entries
abbrev pub count_in : Version → ℕ → ℕ
count_in First n = n
count_in Second n = 128 + n

-- a group: its count byte, and its entries
abbrev pub group_in : Version → List Entry → List ℕ
group_in version es = count_in version (length es) ∷ flat_map (entry_in version) es

-- as it is written: version 2
abbrev pub entry_bytes : Entry → List ℕ
entry_bytes e = entry_in Second e

abbrev pub group_bytes : List Entry → List ℕ
group_bytes es = group_in Second es
