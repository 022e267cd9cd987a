-- Entries that may be written.
use Rattle.std.specs.Prelude.{ℕ, List}
use Rattle.std.specs.List.{AllByRecursion as Every}
use Rattle.deed_words.specs.Proper.{IsProperEntry}
use Rattle.deed_words.specs.declared.entry.Entry.{Entry}
use Rattle.entry_bytes.specs.Kept.{IsKept as IsKeptEntry}

-- the last millisecond of the year 9999
abbrev pub latest : ℕ
latest = 253402300799999

-- each of them is proper
abbrev pub AreProper : List Entry → Type 0
AreProper entries = Every IsProperEntry entries

-- each of them is as its types keep it
abbrev pub AreKept : List Entry → Type 0
AreKept entries = Every IsKeptEntry entries

-- site bytes are no longer than this
abbrev pub setup_limit : ℕ
setup_limit = 5805
