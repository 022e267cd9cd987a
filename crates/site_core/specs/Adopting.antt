-- Why an entry that was read back may not come next.
use Rattle.std.specs.Prelude.{◌≡◌, ◌≢◌, ◌<◌, ◌≤◌, ◌+◌, ℕ, List, length}
use Rattle.deed_words.specs.Setups.{Setup}
use Rattle.deed_words.specs.declared.entry.Entry.{Entry}
use Rattle.deed_words.specs.Rules.{broken}
use Rattle.deed_words.specs.History.{own, last_stamp, world_of, MayDraw}
use Rattle.site_core.specs.declared.unlawful.Unlawful.{Unlawful}
use Rattle.site_core.specs.declared.unlawful.Unlawful.TheVariants.{BadStation, BadNumber, StampFell, BadDrawn, Memory}

-- its station is of the setup
abbrev pub IsOfSite : Setup → Entry → Type 0
IsOfSite site entry = entry.station < length site.stations

-- and its number is the expected one
abbrev pub IsNumbered : Setup → ℕ → Entry → Type 0
IsNumbered site expected entry = IsOfSite site entry × (entry.number ≡ expected)

-- and its stamp isn't before the last one
abbrev pub IsStamped : Setup → ℕ → ℕ → Entry → Type 0
IsStamped site expected last entry = IsOfSite site entry × (entry.number ≡ expected) × (last ≤ entry.stamp)

-- the first of station, number and stamp that is wrong
abbrev pub FailsEarly : Setup → ℕ → ℕ → Entry → Unlawful → Type 0
FailsEarly site expected last entry BadStation = length site.stations ≤ entry.station
FailsEarly site expected last entry (BadNumber told) = IsOfSite site entry × (told ≡ expected) × (entry.number ≢ expected)
FailsEarly site expected last entry StampFell = IsNumbered site expected entry × (entry.stamp < last)
FailsEarly site expected last entry BadDrawn = ⊥
FailsEarly site expected last entry Memory = ⊥

-- the first clause of lawfulness that fails; want of memory may come at any time
abbrev pub Fails : Setup → List Entry → Entry → Unlawful → Type 0
Fails site history entry BadDrawn =
    IsStamped site (length (own entry.station history) + 1) (last_stamp history) entry
    × (MayDraw site (world_of site history) (broken site (world_of site history) entry.station entry.deed) entry.deed entry.drawn → ⊥)
Fails site history entry Memory = Unit {0}
Fails site history entry fault = FailsEarly site (length (own entry.station history) + 1) (last_stamp history) entry fault
