-- Faults in a field, at a place.
use Rattle.std.specs.Prelude.{◌≡◌, ◌⊎◌, ◌<◌, ℕ, List, All}
use Rattle.entry_bytes.specs.declared.fault.EntryFault.{EntryFault}
use Rattle.entry_bytes.specs.declared.fault.EntryFault.TheVariants.{Short, BadTag, BadField}

abbrev pub AreBytes : List ℕ → Type 0
AreBytes bytes = All (λ b. b < 256) bytes

-- the field that begins at this place has the fault
abbrev pub IsStop : EntryFault → ℕ → Type 0
IsStop fault at = (fault ≡ Short at) ⊎ ((fault ≡ BadTag at) ⊎ (fault ≡ BadField at))
