-- What is true of a store between two calls, as clauses say it.
use Rattle.std.specs.Prelude.{◌⊎◌, ◌-◌, ℕ, List, length, vec_len, vec_capacity}
use Rattle.deed_words.specs.Setups.{Setup}
use Rattle.deed_words.specs.declared.entry.Entry.{Entry}
use Rattle.outside.specs.Disks.{LeavesOnly}
use Rattle.outside.specs.declared.disk.Disk as disk
use Rattle.outside.specs.declared.devices.Words as words
use Rattle.outside.specs.declared.clock.Clock as clock
use Rattle.site_store.specs.declared.group.Group.{Group}
use Rattle.site_store.specs.declared.store.Store.{Store}
use Rattle.site_store.specs.Images.{HoldsWithin}
use Rattle.site_store.specs.Noting.{AreServed, Noted}
use Rattle.site_store.specs.Standing.{IsSound, AreNotesOf, AreCaused, state_of, in_order, noted_in}
use Rattle.site_store.specs.States.{State, all_of}
use Rattle.site_store.specs.Trying.{IsTrying}

-- what a store stands for
abbrev pub store_state : {D C W : Type 0} {g : disk.Ghosts D} → Store D C W g → State
store_state s = state_of s.site (in_order s.pending.items)

-- its notes
abbrev pub notes_of : {D C W : Type 0} {g : disk.Ghosts D} → Store D C W g → List Noted
notes_of s = noted_in s.log.items

abbrev pub IsSoundStore : {D C W : Type 0} {g : disk.Ghosts D} → Store D C W g → Type 0
IsSoundStore {g} s = IsSound (g.image s.journal.disk) s.journal.end s.journal.pending s.site (in_order s.pending.items) (vec_capacity s.log - vec_len s.log)

-- while a group is tried
abbrev pub IsTryingStore : {D C W : Type 0} {g : disk.Ghosts D} → Store D C W g → Group → Type 0
IsTryingStore {g} s group = IsTrying (g.image s.journal.disk) s.journal.end s.journal.pending group.base.value s.site group.committed.items group.frame (length group.rows.items) (vec_capacity s.log - vec_len s.log) (vec_capacity s.pending - vec_len s.pending)

-- It is sound, its notes stand for what it does and name the worker of each entry, and their faults have causes.
pub record IsOpen {D C W : Type 0} (g : disk.Ghosts D) (k : clock.Ghosts C) (w : words.Ghosts W) (s : Store D C W g) : Type 0 where
  pub sound : IsSoundStore s
  pub noted : AreNotesOf s.opening.value.history (notes_of s) (store_state s)
  pub served : AreServed (notes_of s) (store_state s)
  pub caused : AreCaused (g.disk_faults s.opened.value.disk) (g.disk_faults s.journal.disk) (k.clock_faults s.opened.value.clock) (k.clock_faults s.clock) (w.word_faults s.opened.value.words) (w.word_faults s.words) (k.moments_left s.opened.value.clock) (k.moments_left s.clock) (w.words_left s.opened.value.words) (w.words_left s.words) (notes_of s)

-- what was there at the start, or the history that was loaded with a front of what is new
abbrev pub HoldsSince : (List ℕ → Type 0) → Setup → List Entry → List Entry → List ℕ → Type 0
HoldsSince at_start site loaded now c = at_start c ⊎ HoldsWithin site loaded now c

-- each image since the opening, where this may have been there at the start
abbrev pub HasBegun : {D C W : Type 0} (g : disk.Ghosts D) → (List ℕ → Type 0) → Store D C W g → Type 0
HasBegun g at_start s = LeavesOnly g.moment g.image_since s.opened.value.disk s.journal.disk (HoldsSince at_start s.site.setup s.opening.value.history (all_of (store_state s)))
