-- Which answers a device is blamed for.
use Rattle.std.specs.Prelude.{◌≡◌, ◌≤◌, ◌-◌, ℕ, Bool, true, false, cond, List, [], ◌∷◌}
use Rattle.outside.specs.Causes.{RoseBy}
use Rattle.deed_words.specs.declared.entry.Entry.{Entry}
use Rattle.deed_words.specs.declared.entry.FaultKind.{FaultKind}
use Rattle.site_store.specs.declared.outcome.Outcome.{Outcome}
use Rattle.site_store.specs.declared.outcome.Outcome.TheVariants.{DiskFault, ClockFault, WordsFault, Memory}
use Rattle.site_store.specs.Noting.{Noted, how_often}

abbrev pub is_clock_fault : Outcome → Bool
is_clock_fault ClockFault = true
is_clock_fault outcome = false

abbrev pub is_words_fault : Outcome → Bool
is_words_fault WordsFault = true
is_words_fault outcome = false

abbrev pub is_pending : List Entry → Bool
is_pending [] = false
is_pending (entry ∷ entries) = true

-- a fault of the disk was told, or memory wasn't found to tell it, and then the group is still pending
abbrev pub is_disk_fault : Outcome → List Entry → Bool
is_disk_fault DiskFault pending = true
is_disk_fault Memory pending = is_pending pending
is_disk_fault outcome pending = false

-- .. by one of them
abbrev pub tells_disk_fault : List Outcome → List Entry → Bool
tells_disk_fault [] pending = false
tells_disk_fault (outcome ∷ outcomes) pending = cond (is_disk_fault outcome pending) true (tells_disk_fault outcomes pending)

-- a count never falls, it went up by n or stands at its last value, and it stays where n is 0
pub record RoseJust (n before now : ℕ) : Type 0 where
  pub later : before ≤ now
  pub rose : RoseBy n before now
  pub kept : n ≡ 0 → now ≡ before

-- .. by as many as faults of this kind were noted in between
abbrev pub HasCauses : FaultKind → List Noted → List Noted → ℕ → ℕ → Type 0
HasCauses kind noted_before noted before now = RoseJust (how_often kind noted - how_often kind noted_before) before now
