-- What a crash may leave around a step.
use Rattle.std.specs.Prelude.{◌≡◌, ◌⊎◌, ℕ, List, ◌++◌}
use Rattle.deed_words.specs.Setups.{Setup}
use Rattle.deed_words.specs.declared.entry.Entry.{Entry}
use Rattle.outside.specs.Disks.{LeavesOnly}
use Rattle.site_store.specs.Held.{Held}
use Rattle.site_store.specs.States.{State, all_of}

-- the bytes hold the history, or the history with what is pending
abbrev pub HoldsState : Setup → State → List ℕ → Type 0
HoldsState site s c = Held site s.history c ⊎ Held site (all_of s) c

-- during a step: what the state before stands for, or all that the state after does
abbrev pub HoldsBetween : Setup → State → State → List ℕ → Type 0
HoldsBetween site old new c = HoldsState site old c ⊎ Held site (all_of new) c

-- entries that come behind a history
abbrev pub Extends : List Entry → List Entry → Type 0
Extends front history = (more : List Entry) × (history ≡ front ++ more)

-- over many steps: a history between these two
pub record HoldsWithin (site : Setup) (low high : List Entry) (c : List ℕ) : Type 0 where
  pub history : List Entry
  pub at_least : Extends low history
  pub at_most : Extends history high
  pub held : Held site history c

-- What was pending stays so, with its disk as it was left; or from some moment on each image holds it, and only from
-- then on anything else was done.
pub record SettledFrom {D : Type 0} (moment : D → ℕ) (since : D → ℕ → List ℕ → Type 0) (site : Setup) (old : State) (disk_old disk_new : D) (new : State) : Type 0 where
  pub mid : D
  pub before : LeavesOnly moment since disk_old mid (HoldsState site old)
  pub after : LeavesOnly moment since mid disk_new (λ c. Held site (all_of old) c ⊎ Held site (all_of new) c)
  pub extends : Extends (all_of old) new.history

-- the history grew at its end, and so did all that the state stands for
pub record Grows (old new : State) : Type 0 where
  pub history : Extends old.history new.history
  pub all : Extends (all_of old) (all_of new)
