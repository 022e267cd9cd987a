-- The JSON of answers that aren't kept: the fault's name, and what each tells.
use Rattle.std.specs.Prelude.{ℕ, List, [], ◌∷◌, false, codes}
use Rattle.serde_json.specs.Data.{Data, boolean, string, object, Members, no_members, member}
use Rattle.gs1_element.specs.declared.fault.ElementFault.{ElementFault}
use Rattle.gs1_element.specs.declared.fault.ElementFault.TheVariants as scan
use Rattle.epc_urn.specs.declared.fault.UrnFault.{UrnFault}
use Rattle.epc_urn.specs.declared.fault.UrnFault.TheVariants as urn
use Rattle.deed_json.specs.DeedFaults.{name_of}
use Rattle.deed_json.specs.Objects.{Told, whole, with_told}
use Rattle.deed_json.specs.declared.deed_fault.Member.{Member}
use Rattle.deed_json.specs.declared.deed_fault.DeedFault.{DeedFault}
use Rattle.deed_json.specs.declared.deed_fault.DeedFault.TheVariants.{NotObject, NoMember, BadMember, BadCode, BadUrn, TooMany, Memory, BadRow}
use Rattle.deed_json.specs.declared.ask.AskFault.{AskFault}
use Rattle.deed_json.specs.declared.ask.AskFault.TheVariants as ask
use Rattle.deed_json.specs.declared.unkept.Unkept.{Unkept}
use Rattle.deed_json.specs.declared.unkept.Unkept.TheVariants as unkept

-- the faults of a scan, of a URN and of a deed by their numbers
abbrev pub number_of_scan : ElementFault → ℕ
number_of_scan scan.Empty = 1
number_of_scan (scan.ShortElement at) = 2
number_of_scan (scan.Missing unit) = 3
number_of_scan (scan.Twice unit) = 4
number_of_scan (scan.BadValue unit at) = 5
number_of_scan (scan.BadMonthOrDay at) = 6
number_of_scan (scan.BadIdentifier at) = 7

abbrev pub number_of_urn : UrnFault → ℕ
number_of_urn urn.UnknownScheme = 1
number_of_urn (urn.BadPrefixLength count) = 2
number_of_urn (urn.BadField at) = 3
number_of_urn (urn.BadEscape at) = 4
number_of_urn (urn.EscapeNotNeeded at) = 5
number_of_urn urn.TooLong = 6

abbrev pub code_at : ℕ → Told
code_at code = (codes "code", whole code)

abbrev pub name_at : Member → Told
name_at m = (codes "name", string (name_of m))

abbrev pub inner_at : ℕ → Told
inner_at inner = (codes "inner", whole inner)

-- what is told of a deed's fault
unfoldable pub told_of : DeedFault → List Told
told_of NotObject = code_at 1 ∷ []
told_of (NoMember m) = code_at 2 ∷ name_at m ∷ []
told_of (BadMember m) = code_at 3 ∷ name_at m ∷ []
told_of (BadCode index inner) = code_at 4 ∷ (codes "index", whole index) ∷ inner_at (number_of_scan inner) ∷ []
told_of (BadUrn index inner) = code_at 5 ∷ (codes "index", whole index) ∷ inner_at (number_of_urn inner) ∷ []
told_of (TooMany count) = code_at 6 ∷ (codes "count", whole count) ∷ []
told_of Memory = code_at 7 ∷ []
told_of (BadRow line column) = code_at 8 ∷ (codes "column", whole column) ∷ (codes "line", whole line) ∷ []

-- the members of every answer that isn't kept
abbrev pub fault_members : List ℕ → Members
fault_members name = member (codes "fault") (string name) (member (codes "ok") (boolean false) no_members)

-- the answer of that name, which tells these
abbrev pub fault : List ℕ → List Told → Data
fault name told = object (with_told (fault_members name) told)

unfoldable pub unkept_data : Unkept → Data
unkept_data unkept.BadLine = fault (codes "BadLine") []
unkept_data unkept.LineTooLong = fault (codes "LineTooLong") []
unkept_data unkept.NoStation = fault (codes "NoStation") []
unkept_data (unkept.BadDeed broken) = fault (codes "BadDeed") (told_of broken)
unkept_data (unkept.NumberGap last) = fault (codes "NumberGap") ((codes "last", whole last) ∷ [])
unkept_data unkept.NumberReused = fault (codes "NumberReused") []
unkept_data unkept.DiskFault = fault (codes "DiskFault") []
unkept_data unkept.ClockFault = fault (codes "ClockFault") []
unkept_data (unkept.ClockRange ms) = fault (codes "ClockRange") ((codes "ms", whole ms) ∷ [])
unkept_data unkept.WordsFault = fault (codes "WordsFault") []
unkept_data (unkept.WordsSpent found) = fault (codes "WordsSpent") ((codes "found", whole found) ∷ [])
unkept_data (unkept.JournalFull end asked) = fault (codes "JournalFull") ((codes "end", whole end) ∷ (codes "asked", whole asked) ∷ [])
unkept_data unkept.Memory = fault (codes "Memory") []

-- what is answered to bytes that ask for nothing
abbrev pub unkept_of : AskFault → Unkept
unkept_of ask.BadLine = unkept.BadLine
unkept_of ask.NoStation = unkept.NoStation
unkept_of (ask.BadDeed broken) = unkept.BadDeed broken
unkept_of ask.Memory = unkept.Memory
