-- What is there in a world: items on packs that have not gone, and containers in use.
use Rattle.std.specs.Prelude.{Bool, true, false, not, ◌&&◌, List, filter}
use Rattle.epc_urn.specs.declared.epc.Epc.{Epc}
use Rattle.epc_urn.specs.declared.epc.Epc.TheVariants.{Item, Unit as Box}
use Rattle.deed_words.specs.declared.words.State.{State}
use Rattle.deed_words.specs.declared.words.State.TheVariants as state
use Rattle.deed_words.specs.declared.world.Row.{Row}
use Rattle.deed_words.specs.declared.world.Container.{Container}
use Rattle.deed_words.specs.declared.world.Pair.{Pair}
use Rattle.deed_words.specs.Names.{Text}
use Rattle.deed_words.specs.Chain.{holds_of}
use Rattle.deed_words.specs.World.{World, row_of, unit_of}
use Rattle.deed_words.specs.Moves.{is_void}
use Rattle.deed_words.specs.Tests.{is_of}

unfoldable pub is_live : State → Bool
is_live state.Active = true
is_live state.Sampled = true
is_live state.Rejected = true
is_live other = false

-- the name is that of an Active, Sampled or Rejected row, or of a unit that isn't void
unfoldable pub is_there : World → Epc → Bool
is_there w (Item gtin serial) = holds_of (λ row. is_live row.state) (row_of w gtin serial)
is_there w (Box sscc) = holds_of (λ unit. not (is_void unit.mark)) (unit_of w sscc)

-- it is there, and of the batch
unfoldable pub is_there_of : World → Text → Epc → Bool
is_there_of w batch name = is_of w batch name && is_there w name

abbrev pub live_rows : List Row → List Row
live_rows rows = filter (λ row. is_live row.state) rows

abbrev pub units_in_use : List Container → List Container
units_in_use units = filter (λ unit. not (is_void unit.mark)) units

-- child and parent
abbrev pub pair_up : Pair → Epc × Text
pair_up pair = (pair.child, pair.parent)
