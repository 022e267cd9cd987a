-- What a site file says.
use Rattle.std.specs.Prelude.{◌≡◌, ◌⊎◌, ◌<◌, ℕ, Bool, true, false, List, length, nat_lt, Option, Result, Ok, Err, if◌then◌else◌}
use Rattle.std.specs.Io.KnownBytes.{IsAtEnd}
use Rattle.deed_words.specs.Setups.{Setup}
use Rattle.site_files.specs.declared.fault.FileFault.{FileFault}
use Rattle.site_files.specs.declared.fault.FileFault.TheVariants as file
use Rattle.site_files.specs.Sites.{setup_of}
use Rattle.site_console.specs.declared.site_file.SiteFault.{SiteFault}
use Rattle.site_console.specs.declared.site_file.SiteFault.TheVariants.{Unreadable, Source, Memory}
use Rattle.site_console.specs.declared.ending.Ending.{Ending}
use Rattle.site_console.specs.declared.ending.Ending.TheVariants as ending
use Rattle.site_console.specs.Limits.{site_limit}

-- the faults of a site file by their numbers
abbrev pub number_of : FileFault → ℕ
number_of file.Unreadable = 1
number_of (file.NoField word) = 2
number_of (file.BadField word) = 3
number_of (file.Twice word) = 4
number_of (file.TooMany word) = 5
number_of file.Memory = 6
number_of (file.Row line column) = 7

-- the setup that the bytes of a site file say, or their first fault: to be too long is to be unreadable
unfoldable pub site_of : List ℕ → Result Setup FileFault
site_of bytes = if nat_lt site_limit (length bytes) then Err file.Unreadable else setup_of bytes

-- the bytes are all that there are, or pass the limit
abbrev pub IsWhole : Option (List ℕ) → List ℕ → Type 0
IsWhole left bytes = IsAtEnd left ⊎ (site_limit < length bytes)

-- the bytes say a setup, or have a fault with this number; want of memory is free
abbrev pub SaysSetup : List ℕ → Result Setup SiteFault → Type 0
SaysSetup bytes (Ok setup) = site_of bytes ≡ Ok setup
SaysSetup bytes (Err (Unreadable kind)) = (fault : FileFault) × (site_of bytes ≡ Err fault) × (kind ≡ number_of fault)
SaysSetup bytes (Err Memory) = Unit {0}
SaysSetup bytes (Err Source) = ⊥

-- .. where these bytes were taken, and are whole unless the source failed or memory was wanting
abbrev pub ReadsSetup : Option (List ℕ) → List ℕ → Result Setup SiteFault → Type 0
ReadsSetup left bytes (Ok setup) = IsWhole left bytes × (site_of bytes ≡ Ok setup)
ReadsSetup left bytes (Err (Unreadable kind)) = IsWhole left bytes × ((fault : FileFault) × (site_of bytes ≡ Err fault) × (kind ≡ number_of fault))
ReadsSetup left bytes (Err Memory) = Unit {0}
ReadsSetup left bytes (Err Source) = Unit {0}

abbrev pub is_source_fault : {T : Type 0} → Result T SiteFault → Bool
is_source_fault (Ok value) = false
is_source_fault (Err (Unreadable kind)) = false
is_source_fault (Err Source) = true
is_source_fault (Err Memory) = false

-- how a command ends whose site file gives no setup
abbrev pub ending_of_file : SiteFault → Ending
ending_of_file (Unreadable kind) = ending.Unreadable kind
ending_of_file Source = ending.ReadFault
ending_of_file Memory = ending.NoMemory
