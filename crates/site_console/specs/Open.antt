-- What is true of a store between two lines, and what it stands for there.
use Rattle.std.specs.Prelude.{ℕ, List, Option}
use Rattle.outside.specs.declared.disk.Disk as disk
use Rattle.outside.specs.declared.devices.Words as words
use Rattle.outside.specs.declared.clock.Clock as clock
use Rattle.site_store.specs.declared.store.Store.{Store}
use Rattle.site_store.specs.Open.{IsOpen, HasBegun, store_state}
use Rattle.site_store.specs.States.{State}
use Rattle.site_console.specs.Told.{Told, Counts}

-- It is open, and each image since the start is one that the disk had there, or holds what was loaded with a front of
-- what is new.
pub record Stands {D C W : Type 0} (g : disk.Ghosts D) (k : clock.Ghosts C) (w : words.Ghosts W) (s : Store D C W g) : Type 0 where
  pub is_open : IsOpen g k w s
  pub begun : HasBegun g (g.image s.opened.value.disk) s

-- what a store stands for, and how often its devices failed
pub record Point : Type 0 where
  pub state : State
  pub counts : Counts

abbrev pub counts_of : {D C W : Type 0} (g : disk.Ghosts D) (k : clock.Ghosts C) (w : words.Ghosts W) → D → C → W → Counts
counts_of g k w d c r = record { disk = g.disk_faults d; clock = k.clock_faults c; words = w.word_faults r }

abbrev pub point_of : {D C W : Type 0} (g : disk.Ghosts D) (k : clock.Ghosts C) (w : words.Ghosts W) → Store D C W g → Point
point_of g k w s = record { state = store_state s; counts = counts_of g k w s.journal.disk s.clock s.words }

-- what is told where this was put
abbrev pub told_of : {C W : Type 0} (k : clock.Ghosts C) (w : words.Ghosts W) → Option (List ℕ) → C → W → Told
told_of k w held c r = record { held = held; moments = k.moments_left c; words = w.words_left r }
