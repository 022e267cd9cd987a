-- The room that planned entries take.
use Rattle.std.specs.Prelude.{◌≡◌, ◌+◌, ◌≤◌, ℕ, List, [], ◌∷◌, Option, None, Some, length, true, if◌then◌else◌, nat_eq, slice_index}
use Rattle.std.specs.List.{AllByRecursion}
use Rattle.gs1_keys.specs.Forms.{is_among}
use Rattle.deed_words.specs.Names.{Text}
use Rattle.deed_words.specs.Happenings.{listed}
use Rattle.serial_pool.specs.Held.{PlanView}
use Rattle.move_list.specs.declared.moved.Moved.{Moved}
use Rattle.move_list.specs.Held.{MoveRoom}
use Rattle.site_stores.specs.declared.change.Change.{Change}
use Rattle.site_stores.specs.Changes.{no_room, room_for, with_room}
use Rattle.site_stores.specs.Holding as stores
use Rattle.site_deeds.specs.Decisions.{serials_drawn}
use Rattle.site_core.specs.declared.planned.Planned.{Planned}
use Rattle.site_core.specs.View.{View, Room}

-- 1 where both are the same station, else 0
abbrev pub one_of : ℕ → ℕ → ℕ
one_of station other = if nat_eq station other then 1 else 0

-- how many are of the station
abbrev pub count_of : ℕ → List Planned → ℕ
count_of station [] = 0
count_of station (planned ∷ later) = one_of planned.entry.station station + count_of station later

-- what their changes take of the stores
abbrev pub changes_room : List Planned → stores.Room
changes_room [] = no_room
changes_room (planned ∷ later) = with_room (room_for planned.change) (changes_room later)

-- how many serials they draw
abbrev pub draws_room : List Planned → ℕ
draws_room [] = 0
draws_room (planned ∷ later) = length (serials_drawn planned.draw) + draws_room later

-- the GTIN of the draw, if there is one, is among these
abbrev pub IsKnown : List Text → Option PlanView → Type 0
IsKnown gtins None = Unit {0}
IsKnown gtins (Some plan) = is_among gtins plan.gtin ≡ true

-- how many have a move, and how many one of the batch
abbrev pub moves_count : List Planned → ℕ
moves_count [] = 0
moves_count (planned ∷ later) = length (listed planned.moved) + moves_count later

abbrev pub of_batch : ℕ → Option Moved → ℕ
of_batch batch None = 0
of_batch batch (Some moved) = one_of moved.batch batch

abbrev pub batch_count : ℕ → List Planned → ℕ
batch_count batch [] = 0
batch_count batch (planned ∷ later) = of_batch batch planned.moved + batch_count batch later

-- there is room for the moves that these have
pub record HasRoomToMove (room : MoveRoom) (later : List Planned) : Type 0 where
  pub any : moves_count later ≤ room.any
  pub own : (batch : ℕ) → batch_count batch later ≤ slice_index room.own batch

-- there is room for all of these, one after the other
pub record HasRoomFor (view : View) (later : List Planned) : Type 0 where
  pub entries : length later ≤ view.room.entries
  pub numbers : (station : ℕ) → count_of station later ≤ slice_index view.room.numbers station
  pub stores : stores.IsWithin (changes_room later) view.room.stores
  pub serials : draws_room later ≤ view.room.serials
  pub gtins : AllByRecursion (λ planned. IsKnown view.room.gtins planned.draw) later
  pub moves : HasRoomToMove view.room.moves later

-- there is room for the change and the draw
pub record FitsIn (room : Room) (change : Change) (draw : Option PlanView) : Type 0 where
  pub stores : stores.IsWithin (room_for change) room.stores
  pub serials : length (serials_drawn draw) ≤ room.serials
  pub gtin : IsKnown room.gtins draw

-- the room for moves doesn't fall
pub record HasMoreRoom (old new : MoveRoom) : Type 0 where
  pub any : old.any ≤ new.any
  pub own : (batch : ℕ) → slice_index old.own batch ≤ slice_index new.own batch

-- the room doesn't fall
pub record IsRoomier (old new : Room) : Type 0 where
  pub entries : old.entries ≤ new.entries
  pub numbers : (station : ℕ) → slice_index old.numbers station ≤ slice_index new.numbers station
  pub stores : stores.IsWithin old.stores new.stores
  pub serials : old.serials ≤ new.serials
  pub gtins : (gtin : Text) → is_among old.gtins gtin ≡ true → is_among new.gtins gtin ≡ true
  pub moves : HasMoreRoom old.moves new.moves
