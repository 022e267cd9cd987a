-- A site that was served by workers, and what its devices are left with.
use Rattle.std.specs.Prelude.{◌≡◌, ◌<◌, ◌++◌, ℕ, Bool, true, false, List, length, map}
use Rattle.std.specs.List.{AllByRecursion as Every}
use Rattle.outside.specs.Causes.{HasCauseIf}
use Rattle.outside.specs.Disks.{Tells as OfContent}
use Rattle.outside.specs.Doors.{DoorState}
use Rattle.outside.specs.declared.disk.Disk as disk
use Rattle.outside.specs.declared.devices.Words as words
use Rattle.outside.specs.declared.clock.Clock as clock
use Rattle.deed_words.specs.History.{IsLawful}
use Rattle.deed_words.specs.Setups.{Setup}
use Rattle.deed_words.specs.declared.entry.Entry.{Entry}
use Rattle.gate_journal.specs.Readings.{Untouched}
use Rattle.turn_desk.specs.declared.view.Noted.{Noted}
use Rattle.turn_desk.specs.declared.view.Origin.{Origin}
use Rattle.site_store.specs.declared.store.Devices.{Devices}
use Rattle.site_store.specs.Images.{HoldsState}
use Rattle.site_store.specs.Noting.{made, left}
use Rattle.site_store.specs.Readings.{ReadsAs, Kept}
use Rattle.site_store.specs.Standing.{AreCaused}
use Rattle.site_store.specs.States.{all_of}
use Rattle.site_console.specs.declared.ending.Ending.{Ending}
use Rattle.site_console.specs.declared.ending.Ending.TheVariants.{Done, DoorFault}
use Rattle.site_console.specs.Endings.{is_disk_ending}
use Rattle.site_console.specs.Sessions.{Refuses}
use Rattle.site_turns.specs.Origins.{in_store, state_at}
use Rattle.site_service.specs.Doors.{AllServed}

-- once every door was served
abbrev pub served_end : Bool → Ending
served_end true = DoorFault
served_end false = Done

-- what the desk begins with: the site and the history that were loaded, and what the devices told then
abbrev pub origin_at : {D C W : Type 0} (g : disk.Ghosts D) (k : clock.Ghosts C) (w : words.Ghosts W) → Setup → List Entry → Devices D C W → Origin
origin_at g k w site history devices = record {
  setup = site;
  opening = history;
  disk_faults = g.disk_faults devices.disk;
  clock_faults = k.clock_faults devices.clock;
  word_faults = w.word_faults devices.words;
  moments = k.moments_left devices.clock;
  words = w.words_left devices.words;
}

-- the entries that the notes added, and those that are still pending
abbrev pub new_entries : List Noted → List Entry
new_entries noted = made (map in_store noted) ++ left (map in_store noted)

-- What the devices are left with: each image of the disk holds the history with what the notes made, or that and what is
-- still pending. All of it is lawful, and each new entry has a worker that had a door. The faults that were noted are no
-- more than what the devices did in this call.
pub record LeavesKept {D C W : Type 0} (g : disk.Ghosts D) (k : clock.Ghosts C) (w : words.Ghosts W) (origin : Origin) (noted : List Noted) (doors : ℕ) (new : Devices D C W) : Type 0 where
  pub images : (c : List ℕ) → g.image new.disk c → HoldsState origin.setup (state_at origin noted) c
  pub lawful : IsLawful origin.setup (all_of (state_at origin noted))
  pub workers : Every (λ (entry : Entry). entry.worker < doors) (new_entries noted)
  pub caused : AreCaused origin.disk_faults (g.disk_faults new.disk) origin.clock_faults (k.clock_faults new.clock) origin.word_faults (w.word_faults new.words) origin.moments (k.moments_left new.clock) origin.words (w.words_left new.words) (map in_store noted)

-- The journal was loaded, and every door was served from its history on.
pub record WasServed {G D C W : Type 0} (state : G → DoorState) (g : disk.Ghosts D) (k : clock.Ghosts C) (w : words.Ghosts W) (before after : List G) (old new : Devices D C W) (failed : Bool) : Type 0 where
  pub site : Setup
  pub history : List Entry
  pub noted : List Noted
  pub loaded : OfContent (g.content old.disk) (ReadsAs (Kept site history))
  pub all : AllServed state (origin_at g k w site history old) before after noted failed
  pub kept : LeavesKept g k w (origin_at g k w site history old) noted (length before) new

-- The journal couldn't be loaded, or memory was wanting: no link was taken, and the disk was only read.
pub record WasLeft {G D C W : Type 0} (g : disk.Ghosts D) (before after : List G) (old new : Devices D C W) (ending : Ending) : Type 0 where
  pub refuses : Refuses (g.content old.disk) ending
  pub cause : HasCauseIf (is_disk_ending ending) (g.disk_faults old.disk) (g.disk_faults new.disk)
  pub doors : after ≡ before
  pub disk : Untouched g.content g.image g.moment g.image_since old.disk new.disk
  pub clock : new.clock ≡ old.clock
  pub words : new.words ≡ old.words

-- what came of it, by its ending
abbrev pub IsSiteServed : {G D C W : Type 0} → (G → DoorState) → disk.Ghosts D → clock.Ghosts C → words.Ghosts W → List G → List G → Devices D C W → Devices D C W → Ending → Type 0
IsSiteServed state g k w before after old new Done = WasServed state g k w before after old new false
IsSiteServed state g k w before after old new DoorFault = WasServed state g k w before after old new true
IsSiteServed state g k w before after old new ending = WasLeft g before after old new ending
