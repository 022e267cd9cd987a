-- What a site keeps true.
use Rattle.std.specs.Prelude.{◌≡◌, ◌<◌, ◌^◌, ℕ, List, length, map, true, All}
use Rattle.std.specs.List.{AllByRecursion as Every}
use Rattle.gs1_keys.specs.Forms.{is_among}
use Rattle.deed_words.specs.Setups.{Setup}
use Rattle.deed_words.specs.declared.entry.Entry.{Entry}
use Rattle.deed_words.specs.Happenings.{moves}
use Rattle.deed_words.specs.History.{IsLawful, world_of}
use Rattle.deed_words.specs.Proper.{IsProperEntry}
use Rattle.serial_pool.specs.Held.{PoolView}
use Rattle.batch_book.specs.Content.{Content, world_in}
use Rattle.request_memo.specs.declared.page.Told.{Told}
use Rattle.request_memo.specs.Memos.{told_by}
use Rattle.request_memo.specs.Seeing.{AreToldTo}
use Rattle.move_list.specs.declared.moved.Moved.{Moved}
use Rattle.move_list.specs.Kept.{kept_of}
use Rattle.site_deeds.specs.Draws.{drawn_in}

-- The history is lawful and of proper entries; the stores hold the world after it, the pool the serials that were
-- drawn, of GTINs for which it has room, and the memo what each station asked and was told.
pub record Stands (site : Setup) (history : List Entry) (pages : List (List Told)) (c : Content) (pool : PoolView) : Type 0 where
  pub lawful : IsLawful site history
  pub proper : All IsProperEntry history
  pub world : world_in c ≡ world_of site history
  pub drawn : pool.drawn ≡ drawn_in (world_of site history)
  pub known : Every (λ pair. is_among pool.gtins pair.gtin ≡ true) pool.drawn
  pub stations : length pages ≡ length site.stations
  pub told : (station : ℕ) → AreToldTo site history station (told_by pages station)

-- and its moves are kept, of fewer than 2^32 entries
pub record IsKept (site : Setup) (history : List Entry) (pages : List (List Told)) (c : Content) (pool : PoolView) (kept : List Moved) : Type 0 where
  pub stands : Stands site history pages c pool
  pub moved : kept ≡ map kept_of (moves site history)
  pub few : length history < 2 ^ 32
