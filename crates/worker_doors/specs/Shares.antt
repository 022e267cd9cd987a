-- How the connections are shared among the doors.
use Rattle.std.specs.Prelude.{◌≡◌, ◌<◌, ◌≤◌, ◌+◌, ◌/◌, ◌%◌, ◌⊎◌, ℕ, List, None, cond, length, nat_lt, slice_index_or, zero, suc}
use Rattle.outside.specs.Doors.{DoorState, with_quota}
use Rattle.command_words.specs.declared.command.ServeWords.{ServeWords}

-- how many connections the door of this worker has: an equal share, the first doors one more
abbrev pub share : ServeWords → ℕ → ℕ
share words worker = words.connections / words.workers + cond (nat_lt worker (words.connections % words.workers)) 1 0

-- a door for each worker, with its share to give and none given yet
pub record AreShares {G : Type 0} (state : G → DoorState) (words : ServeWords) (doors : List G) : Type 0 where
  pub count : length doors ≡ words.workers
  pub shares : (k : ℕ) (d : G) → k < length doors → state (slice_index_or doors k d) ≡ with_quota (share words k) None
  pub few : (k : ℕ) (d : G) → k < length doors → (state (slice_index_or doors k d)).quota ≤ words.connections

-- what the first so many workers have in all
abbrev pub shared : ServeWords → ℕ → ℕ
shared words zero = 0
shared words (suc k) = shared words k + share words k

-- the shares of the workers come to all connections
abbrev pub AllAreShared : Type 0
AllAreShared = (words : ServeWords) → 1 ≤ words.workers → shared words words.workers ≡ words.connections

-- of two doors the first one has as many as the other, or one more
abbrev pub SharesAreEven : Type 0
SharesAreEven = (words : ServeWords) (first later : ℕ) → first ≤ later → (share words first ≡ share words later) ⊎ (share words first ≡ share words later + 1)
