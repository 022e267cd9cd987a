-- What contracts see of a site.
use Rattle.std.specs.Prelude.{ℕ, List}
use Rattle.deed_words.specs.Names.{Text}
use Rattle.deed_words.specs.Setups.{Setup}
use Rattle.deed_words.specs.declared.entry.Entry.{Entry}
use Rattle.batch_book.specs.Content.{Content}
use Rattle.move_list.specs.Held.{MoveRoom}
use Rattle.site_stores.specs.Holding as stores

-- for how many more entries there is room; for how many more numbers, by station; what the stores have room for; for
-- how many more serials the pool has room, and for which GTINs; and for which more moves
pub record Room : Type 0 where
  pub entries : ℕ
  pub numbers : List ℕ
  pub stores : stores.Room
  pub serials : ℕ
  pub gtins : List Text
  pub moves : MoveRoom

-- its setup, its history, what the stores hold after it, and the room
pub record View : Type 0 where
  pub setup : Setup
  pub history : List Entry
  pub content : Content
  pub room : Room
