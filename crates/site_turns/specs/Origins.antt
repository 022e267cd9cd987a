-- A store at the desk: what no turn changes, its notes as the desk sees them, and what they stand for.
use Rattle.std.specs.Prelude.{ℕ, List, map}
use Rattle.outside.specs.declared.disk.Disk as disk
use Rattle.outside.specs.declared.devices.Words as words
use Rattle.outside.specs.declared.clock.Clock as clock
use Rattle.turn_desk.specs.declared.view.Noted.{Noted}
use Rattle.turn_desk.specs.declared.view.Origin.{Origin}
use Rattle.site_store.specs.Noting as store
use Rattle.site_store.specs.Open.{IsOpen, HasBegun, notes_of}
use Rattle.site_store.specs.States.{State}
use Rattle.site_store.specs.declared.store.Store.{Store}

-- a note of the store, as the desk sees it
abbrev pub at_desk : store.Noted → Noted
at_desk x = record { note = x.note; group = x.group }

-- .. and back
abbrev pub in_store : Noted → store.Noted
in_store x = record { note = x.note; group = x.group }

abbrev pub desk_notes : {D C W : Type 0} {g : disk.Ghosts D} → Store D C W g → List Noted
desk_notes s = map at_desk (notes_of s)

-- the setup, the history and the devices at the opening
abbrev pub origin_of : {D C W : Type 0} (g : disk.Ghosts D) (k : clock.Ghosts C) (w : words.Ghosts W) → Store D C W g → Origin
origin_of g k w s = record {
  setup = s.site.setup;
  opening = s.opening.value.history;
  disk_faults = g.disk_faults s.opened.value.disk;
  clock_faults = k.clock_faults s.opened.value.clock;
  word_faults = w.word_faults s.opened.value.words;
  moments = k.moments_left s.opened.value.clock;
  words = w.words_left s.opened.value.words;
}

-- What is true of the store between two turns: what is true between two calls, and what a crash at any moment since the
-- opening may have left.
pub record IsServing {D C W : Type 0} (g : disk.Ghosts D) (k : clock.Ghosts C) (w : words.Ghosts W) (s : Store D C W g) : Type 0 where
  pub is_open : IsOpen g k w s
  pub begun : HasBegun g (g.image s.opened.value.disk) s

-- what the store stands for that has these notes
abbrev pub state_at : Origin → List Noted → State
state_at origin noted = store.standing origin.opening (map in_store noted)
