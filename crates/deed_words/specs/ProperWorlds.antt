-- What a world of proper entries keeps: what texts, events and reports need of it.
use Rattle.std.specs.Prelude.{◌≡◌, ◌<◌, ℕ, true, false, Some, is_some, length}
use Rattle.std.specs.List.{AllByRecursion as Every}
use Rattle.gs1_keys.specs.Keys.{is_between}
use Rattle.deed_words.specs.Setups.{Setup, product_of}
use Rattle.deed_words.specs.Chain.{is_empty}
use Rattle.deed_words.specs.declared.world.Batch.{Batch}
use Rattle.deed_words.specs.declared.world.Row.{Row}
use Rattle.deed_words.specs.World.{World}
use Rattle.deed_words.specs.Proper.{is_order}

-- a batch of a product, with a name, a proper order and 1 to 1,000,000 items
pub record IsProperBatch (site : Setup) (batch : Batch) : Type 0 where
  pub name : is_empty batch.order.batch ≡ false
  pub product : is_some (product_of site batch.order.gtin) ≡ true
  pub order : is_order batch.order ≡ true
  pub quantity : is_between 1 1000000 batch.quantity ≡ true

-- the line that the serial was lent to is a station of the site
unfoldable pub IsOfStation : Setup → Row → Type 0
IsOfStation site row = (line : ℕ) → row.line ≡ Some line → line < length site.stations

pub record IsProperWorld (site : Setup) (w : World) : Type 0 where
  pub batches : Every (IsProperBatch site) w.batches
  pub lines : Every (IsOfStation site) w.rows
  pub declared : Every (λ said. said.line < length site.stations) w.declarations
