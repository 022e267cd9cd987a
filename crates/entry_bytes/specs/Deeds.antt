-- The bytes of deeds, entries and groups: what they mean, or the first fault from the left.
use Rattle.std.specs.Prelude.{ℕ, ◌-◌, List, length, Option, Some, None, Result, Ok, Err, if◌then◌else◌, ◌==◌}
use Rattle.std.specs.Int.{w32, w64}
use Rattle.gs1_keys.specs.Keys.{is_between}
use Rattle.gs1_element.specs.declared.code.Code.{Code}
use Rattle.epc_urn.specs.declared.epc.Epc.{Epc}
use Rattle.deed_words.specs.declared.deed.OrderRow.{OrderRow}
use Rattle.deed_words.specs.declared.deed.Deed.{Deed}
use Rattle.deed_words.specs.declared.deed.Deed.TheVariants as deed
use Rattle.deed_words.specs.declared.entry.Entry.{Entry}
use Rattle.entry_bytes.specs.declared.fault.Stop.{Stop}
use Rattle.entry_bytes.specs.declared.fault.Stop.TheVariants as stop
use Rattle.entry_bytes.specs.declared.fault.EntryFault.{EntryFault}
use Rattle.entry_bytes.specs.declared.fault.EntryFault.TheVariants as fault
use Rattle.entry_bytes.specs.declared.kind.DeedKind.{DeedKind}
use Rattle.entry_bytes.specs.declared.kind.DeedKind.TheVariants as kind
use Rattle.entry_bytes.specs.declared.version.Version.{Version}
use Rattle.entry_bytes.specs.declared.version.Version.TheVariants.{First, Second}
use Rattle.entry_bytes.specs.Reading.{◌>>=◌, Reader, one, two, byte_at, number_at, ranged, many, listed}
use Rattle.entry_bytes.specs.Fields.{pair, text_at, sscc_at, operator_at, level_at, epc_at, code_at, quantity_at, row_at}

unfoldable pub rows_at : Reader (List OrderRow)
rows_at bytes = listed 1000 row_at bytes

unfoldable pub codes_at : Reader (List Code)
codes_at bytes = listed 1000 code_at bytes

unfoldable pub serials_at : Reader (List (List ℕ))
serials_at bytes = listed 1000 text_at bytes

unfoldable pub epcs_at : Reader (List Epc)
epcs_at bytes = listed 1000 epc_at bytes

unfoldable pub drawn_at : Reader (List (List ℕ))
drawn_at bytes = listed 10000 text_at bytes

-- the tag of each kind of deed
abbrev pub tag_of : DeedKind → ℕ
tag_of kind.Order = 1
tag_of kind.Orders = 2
tag_of kind.Start = 3
tag_of kind.Draw = 4
tag_of kind.Lend = 5
tag_of kind.Commission = 6
tag_of kind.Spoil = 7
tag_of kind.Giveback = 8
tag_of kind.Sample = 9
tag_of kind.Reject = 10
tag_of kind.Reinstate = 11
tag_of kind.Destroy = 12
tag_of kind.Decommission = 13
tag_of kind.Container = 14
tag_of kind.Pack = 15
tag_of kind.Unpack = 16
tag_of kind.UnpackAll = 17
tag_of kind.Seal = 18
tag_of kind.Unseal = 19
tag_of kind.Void = 20
tag_of kind.Declare = 21
tag_of kind.Close = 22
tag_of kind.Amend = 23

unfoldable pub kind_of : ℕ → Option DeedKind
kind_of tag = if tag == 1 then Some kind.Order else (if tag == 2 then Some kind.Orders else (if tag == 3 then Some kind.Start else (if tag == 4 then Some kind.Draw else (if tag == 5 then Some kind.Lend else (if tag == 6 then Some kind.Commission else (if tag == 7 then Some kind.Spoil else (if tag == 8 then Some kind.Giveback else (if tag == 9 then Some kind.Sample else (if tag == 10 then Some kind.Reject else (if tag == 11 then Some kind.Reinstate else (if tag == 12 then Some kind.Destroy else (if tag == 13 then Some kind.Decommission else (if tag == 14 then Some kind.Container else (if tag == 15 then Some kind.Pack else (if tag == 16 then Some kind.Unpack else (if tag == 17 then Some kind.UnpackAll else (if tag == 18 then Some kind.Seal else (if tag == 19 then Some kind.Unseal else (if tag == 20 then Some kind.Void else (if tag == 21 then Some kind.Declare else (if tag == 22 then Some kind.Close else (if tag == 23 then Some kind.Amend else (None)))))))))))))))))))))))

-- the fields of each kind
unfoldable pub fields_at : DeedKind → Reader Deed
fields_at kind.Order bytes = one deed.Order row_at bytes
fields_at kind.Orders bytes = one deed.Orders rows_at bytes
fields_at kind.Start bytes = one deed.Start text_at bytes
fields_at kind.Draw bytes = two deed.Draw text_at (number_at w32) bytes
fields_at kind.Lend bytes = two deed.Lend text_at (number_at w32) bytes
fields_at kind.Commission bytes = two deed.Commission text_at codes_at bytes
fields_at kind.Spoil bytes = two deed.Spoil text_at serials_at bytes
fields_at kind.Giveback bytes = two deed.Giveback text_at serials_at bytes
fields_at kind.Sample bytes = two deed.Sample text_at epcs_at bytes
fields_at kind.Reject bytes = two deed.Reject text_at epcs_at bytes
fields_at kind.Reinstate bytes = two deed.Reinstate text_at epcs_at bytes
fields_at kind.Destroy bytes = two deed.Destroy text_at epcs_at bytes
fields_at kind.Decommission bytes = two deed.Decommission text_at epcs_at bytes
fields_at kind.Container bytes = two deed.Container text_at level_at bytes
fields_at kind.Pack bytes = two deed.Pack sscc_at epcs_at bytes
fields_at kind.Unpack bytes = two deed.Unpack sscc_at epcs_at bytes
fields_at kind.UnpackAll bytes = one deed.UnpackAll sscc_at bytes
fields_at kind.Seal bytes = one deed.Seal sscc_at bytes
fields_at kind.Unseal bytes = one deed.Unseal sscc_at bytes
fields_at kind.Void bytes = one deed.Void sscc_at bytes
fields_at kind.Declare bytes = two (λ batch numbers. deed.Declare batch numbers.0 numbers.1.0 numbers.1.1) text_at (two pair (number_at w32) (two pair (number_at w32) (number_at w32))) bytes
fields_at kind.Close bytes = one deed.Close text_at bytes
fields_at kind.Amend bytes = two deed.Amend text_at quantity_at bytes

abbrev pub fields_if : ℕ → Option DeedKind → Reader Deed
fields_if left (Some k) rest = fields_at k rest
fields_if left None rest = Err (stop.BadTag left)

unfoldable pub deed_at : Reader Deed
deed_at bytes = byte_at bytes >>= λ tag. fields_if (length bytes) (kind_of tag.0) tag.1

abbrev pub make_entry : ℕ → ℕ × (ℕ × (ℕ × (Option (List ℕ) × (Deed × List (List ℕ))))) → Entry
make_entry station tail = record { station = station; number = tail.0; worker = tail.1.0; stamp = tail.1.1.0; operator = tail.1.1.1.0; deed = tail.1.1.1.1.0; drawn = tail.1.1.1.1.1 }

-- at most the last millisecond of the year 9999
unfoldable pub stamp_at : Reader ℕ
stamp_at bytes = ranged 0 253402300799999 (number_at w64) bytes

unfoldable pub entry_at : Version → Reader Entry
entry_at version bytes = two make_entry byte_at (two pair (number_at w64) (two pair byte_at (two pair stamp_at (two pair (operator_at version) (two pair deed_at drawn_at))))) bytes

-- a group of 1 to 16 entries: of version 2 where its first byte is 128 and their number, else of version 1
unfoldable pub group_at : Reader (List Entry)
group_at bytes = byte_at bytes >>= λ n. if is_between 129 144 n.0 then many (entry_at Second) (n.0 - 128) n.1 else (if is_between 1 16 n.0 then many (entry_at First) n.0 n.1 else Err (stop.BadField (length bytes)))

-- the place of a fault, from the left
abbrev pub placed : ℕ → Stop → EntryFault
placed total (stop.Short left) = fault.Short (total - left)
placed total (stop.BadTag left) = fault.BadTag (total - left)
placed total (stop.BadField left) = fault.BadField (total - left)
placed total stop.Memory = fault.Memory

-- all of the bytes, or the first fault
abbrev pub whole : {X : Type 0} → ℕ → Result (X × List ℕ) Stop → Result X EntryFault
whole total (Err at) = Err (placed total at)
whole total (Ok x) = if length x.1 == 0 then Ok x.0 else Err (fault.Extra (total - length x.1))

unfoldable pub entries_of : List ℕ → Result (List Entry) EntryFault
entries_of bytes = whole (length bytes) (group_at bytes)
