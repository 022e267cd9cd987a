-- The doors of a site, before and after they were served.
use Rattle.std.specs.Prelude.{◌≡◌, ◌<◌, ◌≤◌, ℕ, Bool, true, false, List, [], length, slice_index_or}
use Rattle.outside.specs.Causes.{Rose}
use Rattle.outside.specs.Doors.{DoorState}
use Rattle.turn_desk.specs.declared.view.Noted.{Noted}
use Rattle.turn_desk.specs.declared.view.Origin.{Origin}
use Rattle.turn_desk.specs.Notes.{own, Begins}
use Rattle.site_server.specs.Chain.{Serves, IsUnopened}

-- none has given a link yet, and the quota of each is within the limit
abbrev pub AreUnopened : {G : Type 0} → (G → DoorState) → List G → Type 0
AreUnopened {G} state doors = (k : ℕ) (d : G) → k < length doors → IsUnopened (state (slice_index_or doors k d))

-- the count of one of them rose
abbrev pub OneRose : {G : Type 0} → (G → DoorState) → List G → List G → Type 0
OneRose {G} state before after = (k : ℕ) × (k < length before) × ((d : G) → Rose ((state (slice_index_or before k d)).faults) ((state (slice_index_or after k d)).faults))

-- each count is as it was
abbrev pub NoneRose : {G : Type 0} → (G → DoorState) → List G → List G → Type 0
NoneRose {G} state before after = (k : ℕ) (d : G) → k < length before → (state (slice_index_or after k d)).faults ≡ (state (slice_index_or before k d)).faults

-- One door's worker: its quota is used up, each link came back, and its sessions begin with nothing seen and end with a
-- seen list that begins the notes and has all of the worker's own.
pub record IsDoorDone (origin : Origin) (worker : ℕ) (old new : DoorState) (noted : List Noted) : Type 0 where
  pub used_up : new.quota ≡ 0
  pub all_back : new.back ≡ new.given
  pub seen : List Noted
  pub serves : Serves origin worker old new [] seen
  pub begins : Begins seen noted
  pub own_are : own worker noted ≡ own worker seen

-- Every door was served at one desk, each by the worker of its place, and no note is of another. A door's count rose
-- exactly where one failed.
pub record AllServed {G : Type 0} (state : G → DoorState) (origin : Origin) (before after : List G) (noted : List Noted) (failed : Bool) : Type 0 where
  pub long : length after ≡ length before
  pub each : (k : ℕ) (d : G) → k < length before → IsDoorDone origin k (state (slice_index_or before k d)) (state (slice_index_or after k d)) noted
  pub none : (k : ℕ) → length before ≤ k → own k noted ≡ []
  pub rose : failed ≡ true → OneRose state before after
  pub stood : failed ≡ false → NoneRose state before after
