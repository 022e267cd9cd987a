-- What a list of moves holds, and its room.
use Rattle.std.specs.Prelude.{◌≡◌, ◌+◌, ◌-◌, ◌<◌, ◌≤◌, ℕ, List, map, length, Option, None, Some, slice_index, slice_set}
use Rattle.row_lists.specs.Lists.{Listed, rows_of}
use Rattle.move_list.specs.declared.moved.Moved.{Moved}

-- for how many more moves there is room: in all, and of each batch
pub record MoveRoom : Type 0 where
  pub any : ℕ
  pub own : List ℕ

pub record Held : Type 0 where
  pub moves : List Moved
  pub room : MoveRoom

abbrev pub batches_in : List Moved → List ℕ
batches_in moves = map (λ moved. moved.batch) moves

-- the places of the moves of the batch
abbrev pub places_of : List Moved → ℕ → List ℕ
places_of moves batch = rows_of (batches_in moves) batch

-- the lists by batch are those of the moves, and all have the room
pub record IsHeld (moves : List Moved) (lists : Listed) (room capacity : ℕ) : Type 0 where
  pub batches : lists.groups ≡ batches_in moves
  pub in_list : length moves + room ≤ capacity
  pub in_lists : room ≤ lists.room

-- there is room for the move, if there is one
abbrev pub HasRoom : MoveRoom → Option Moved → Type 0
HasRoom room None = Unit {0}
HasRoom room (Some moved) = (0 < room.any) × (0 < slice_index room.own moved.batch)

-- the room after the move came, and after it was taken back
abbrev pub room_after : MoveRoom → Option Moved → MoveRoom
room_after room None = room
room_after room (Some moved) = record { any = room.any - 1; own = slice_set room.own moved.batch (slice_index room.own moved.batch - 1) }

abbrev pub room_before : MoveRoom → Option Moved → MoveRoom
room_before room None = room
room_before room (Some moved) = record { any = room.any + 1; own = slice_set room.own moved.batch (slice_index room.own moved.batch + 1) }
