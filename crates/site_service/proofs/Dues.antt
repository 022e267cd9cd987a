-- What the status says.
use Rattle.std.proofs.Common.{◌≡◌, ◌⊎◌, ◌∙◌, ◌<◌, ℕ, List, Option, None, Some, inl, inr, refl, sym, ap, subst, slice_index_or}
use Rattle.std.specs.Prelude.{IsSomeAnd}
use Rattle.outside.specs.Causes.{Rose}
use Rattle.outside.specs.Disks.{Tells as OfContent}
use Rattle.outside.specs.Doors.{DoorState}
use Rattle.outside.specs.declared.disk.Disk as disk
use Rattle.outside.specs.declared.devices.Words as words
use Rattle.outside.specs.declared.clock.Clock as clock
use Rattle.deed_words.specs.Setups.{Setup}
use Rattle.deed_words.specs.declared.entry.Entry.{Entry}
use Rattle.site_store.specs.declared.store.Devices.{Devices}
use Rattle.site_store.specs.Readings.{Reading, ReadsAs, Nothing, Bad, Kept}
use Rattle.site_console.specs.declared.ending.Ending.{Ending}
use Rattle.site_console.specs.declared.ending.Ending.TheVariants.{Done, BadWords, Unreadable, JournalThere, NoJournal, JournalBad, ReadFault, WriteFault, DiskFault, UnknownBatch, NoMemory, DoorFault, TooLong}
use Rattle.site_console.specs.Endings.{status_of}
use Rattle.site_console.specs.Top.{IsDone, IsLoadable}
use Rattle.site_service.specs.Doors.{OneRose, NoneRose}
use Rattle.site_service.specs.Sites.{IsSiteServed, WasLeft}
use Rattle.site_service.specs.Serves.{IsDue, StopsShort}

-- bytes are read in one way
abbrev pub OneReading : Type 0
OneReading = (c : List ℕ) (a b : Reading) → ReadsAs a c → ReadsAs b c → a ≡ b

short : (reading : Reading) (status : ℕ) → StopsShort status → IsDue reading status
short Nothing status stops = inr stops
short (Bad place) status stops = inr stops
short (Kept site history) status stops = inr (inr stops)

-- what is loadable is read as a history
not_else : OneReading → (content : Option (List ℕ)) (reading : Reading) → OfContent content (ReadsAs reading) → IsSomeAnd content IsLoadable → (site : Setup) × (history : List Entry) × (reading ≡ Kept site history)
not_else one None reading tells loadable = absurd loadable
not_else one (Some c) reading tells loadable = (loadable.0, loadable.1, one c reading (Kept loadable.0 loadable.1) (tells c refl) loadable.2)

module _ {G D C W : Type 0} (state : G → DoorState) (g : disk.Ghosts D) (k : clock.Ghosts C) (w : words.Ghosts W) (before after : List G) (old new : Devices D C W) where
  due_end : OneReading → (ending : Ending) → IsSiteServed state g k w before after old new ending → (c : List ℕ) (reading : Reading) → g.content old.disk ≡ Some c → ReadsAs reading c → IsDue reading (status_of ending)
  due_end one Done s c reading is reads = subst (λ (r : Reading). IsDue r 0) (sym (one c reading (Kept s.site s.history) reads (s.loaded c is))) (inl refl)
  due_end one DoorFault s c reading is reads = subst (λ (r : Reading). IsDue r 12) (sym (one c reading (Kept s.site s.history) reads (s.loaded c is))) (inr (inl refl))
  due_end one NoJournal s c reading is reads = subst (λ (r : Reading). IsDue r 5) (sym (one c reading Nothing reads (s.refuses c is))) (inl refl)
  due_end one (JournalBad place) s c reading is reads = subst (λ (r : Reading). IsDue r 6) (sym (one c reading (Bad place) reads (s.refuses c is))) (inl refl)
  due_end one DiskFault s c reading is reads = short reading 9 (inl refl)
  due_end one NoMemory s c reading is reads = short reading 11 (inr refl)
  due_end one BadWords s c reading is reads = absurd s.refuses
  due_end one (Unreadable kind) s c reading is reads = absurd s.refuses
  due_end one JournalThere s c reading is reads = absurd s.refuses
  due_end one ReadFault s c reading is reads = absurd s.refuses
  due_end one WriteFault s c reading is reads = absurd s.refuses
  due_end one UnknownBatch s c reading is reads = absurd s.refuses
  due_end one TooLong s c reading is reads = absurd s.refuses

  pub due : OneReading → (ending : Ending) (status : ℕ) → status ≡ status_of ending → IsSiteServed state g k w before after old new ending → (c : List ℕ) (reading : Reading) → g.content old.disk ≡ Some c → ReadsAs reading c → IsDue reading status
  due one ending status is s c reading content reads = subst (IsDue reading) (sym is) (due_end one ending s c reading content reads)

  one_rose : (ending : Ending) → IsSiteServed state g k w before after old new ending → status_of ending ≡ 12 → OneRose state before after
  one_rose DoorFault s e = s.all.rose refl
  one_rose Done s e = absurd cc
  one_rose BadWords s e = absurd cc
  one_rose (Unreadable kind) s e = absurd cc
  one_rose JournalThere s e = absurd cc
  one_rose NoJournal s e = absurd cc
  one_rose (JournalBad place) s e = absurd cc
  one_rose ReadFault s e = absurd cc
  one_rose WriteFault s e = absurd cc
  one_rose DiskFault s e = absurd cc
  one_rose UnknownBatch s e = absurd cc
  one_rose NoMemory s e = absurd cc
  one_rose TooLong s e = absurd cc

  pub door_fault : (ending : Ending) (status : ℕ) → status ≡ status_of ending → IsSiteServed state g k w before after old new ending → status ≡ 12 → OneRose state before after
  door_fault ending status is s e = one_rose ending s (sym is ∙ e)

  left_rose : (ending : Ending) → WasLeft g before after old new ending → NoneRose state before after
  left_rose ending s = λ n d lt. ap (λ (ds : List G). (state (slice_index_or ds n d)).faults) s.doors

  none_rose : (ending : Ending) → IsSiteServed state g k w before after old new ending → (status_of ending ≡ 12 → ⊥) → NoneRose state before after
  none_rose Done s other = s.all.stood refl
  none_rose DoorFault s other = absurd (other refl)
  none_rose ending s other = left_rose ending s

  pub no_door_fault : (ending : Ending) (status : ℕ) → status ≡ status_of ending → IsSiteServed state g k w before after old new ending → (status ≡ 12 → ⊥) → NoneRose state before after
  no_door_fault ending status is s other = none_rose ending s (λ e. other (is ∙ e))

  done : OneReading → (ending : Ending) → IsSiteServed state g k w before after old new ending → (Rose (g.disk_faults old.disk) (g.disk_faults new.disk) → ⊥) → (OneRose state before after → ⊥) → IsSomeAnd (g.content old.disk) IsLoadable → IsDone (status_of ending)
  done one Done s sound none loadable = inl refl
  done one NoMemory s sound none loadable = inr refl
  done one DoorFault s sound none loadable = absurd (none (s.all.rose refl))
  done one DiskFault s sound none loadable = absurd (sound s.cause.failed)
  done one NoJournal s sound none loadable = absurd (let e = (not_else one (g.content old.disk) Nothing s.refuses loadable).2 in cc)
  done one (JournalBad place) s sound none loadable = absurd (let e = (not_else one (g.content old.disk) (Bad place) s.refuses loadable).2 in cc)
  done one BadWords s sound none loadable = absurd s.refuses
  done one (Unreadable kind) s sound none loadable = absurd s.refuses
  done one JournalThere s sound none loadable = absurd s.refuses
  done one ReadFault s sound none loadable = absurd s.refuses
  done one WriteFault s sound none loadable = absurd s.refuses
  done one UnknownBatch s sound none loadable = absurd s.refuses
  done one TooLong s sound none loadable = absurd s.refuses

  pub completes : OneReading → (ending : Ending) (status : ℕ) → status ≡ status_of ending → IsSiteServed state g k w before after old new ending → (Rose (g.disk_faults old.disk) (g.disk_faults new.disk) → ⊥) → (OneRose state before after → ⊥) → IsSomeAnd (g.content old.disk) IsLoadable → IsDone status
  completes one ending status is s sound none loadable = subst IsDone (sym is) (done one ending s sound none loadable)
