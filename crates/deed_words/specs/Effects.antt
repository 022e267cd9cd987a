-- What an accepted deed does to the world.
use Rattle.std.specs.Prelude.{ℕ, not, List, [], ◌∷◌, ◌++◌, length, map, filter, take, None, Some, unwrap_or, if◌then◌else◌}
use Rattle.std.specs.Option.{option_map_or}
use Rattle.deed_words.specs.Names.{Text, same, is_among}
use Rattle.epc_urn.specs.declared.epc.Epc.{Epc}
use Rattle.deed_words.specs.Setups.{Setup, code_of}
use Rattle.deed_words.specs.declared.deed.OrderRow.{OrderRow}
use Rattle.deed_words.specs.declared.deed.Deed.{Deed}
use Rattle.deed_words.specs.declared.deed.Deed.TheVariants.{Order, Orders, Start, Draw, Lend, Container as MakeUnit, Pack, Unpack, UnpackAll, Seal, Unseal, Void, Declare, Close, Amend}
use Rattle.deed_words.specs.declared.words.Phase.{Phase}
use Rattle.deed_words.specs.declared.words.Phase.TheVariants.{Started, Closed}
use Rattle.deed_words.specs.declared.words.State.TheVariants.{Fresh, Lent}
use Rattle.deed_words.specs.declared.words.Level.{Level}
use Rattle.deed_words.specs.declared.words.Mark.{Mark}
use Rattle.deed_words.specs.declared.words.Mark.TheVariants as mark
use Rattle.deed_words.specs.declared.world.Batch.{Batch}
use Rattle.deed_words.specs.declared.world.Row.{Row}
use Rattle.deed_words.specs.declared.world.Container.{Container}
use Rattle.deed_words.specs.declared.world.Pair.{Pair}
use Rattle.deed_words.specs.declared.world.Declaration.{Declaration}
use Rattle.deed_words.specs.World.{World, name_of, batch_of}
use Rattle.deed_words.specs.Deeds.{named}
use Rattle.deed_words.specs.Moves.{moved}
use Rattle.deed_words.specs.Orders.{new_orders, orders_in, planned}
use Rattle.deed_words.specs.Tests.{fresh_rows}

-- each row as it is first accepted becomes a batch
unfoldable pub with_orders : World → List OrderRow → World
with_orders w rows = record w { batches = w.batches ++ map planned (new_orders (orders_in w) rows) }

unfoldable pub in_phase : Phase → Text → Batch → Batch
in_phase phase name batch = if same batch.order.batch name then record batch { phase = phase } else batch

unfoldable pub with_phase : World → Phase → Text → World
with_phase w phase name = record w { batches = map (in_phase phase name) w.batches }

unfoldable pub of_quantity : ℕ → Text → Batch → Batch
of_quantity quantity name batch = if same batch.order.batch name then record batch { quantity = quantity } else batch

unfoldable pub with_quantity : World → ℕ → Text → World
with_quantity w quantity name = record w { batches = map (of_quantity quantity name) w.batches }

-- a serial of the batch that nobody had yet
unfoldable pub fresh_row : Text → Text → Text → Row
fresh_row gtin name serial = record { gtin = gtin; serial = serial; batch = name; line = None; state = Fresh }

-- the GTIN of the batch
unfoldable pub gtin_of : World → Text → Text
gtin_of w name = option_map_or (λ batch. batch.order.gtin) (batch_of w name) []

unfoldable pub with_drawn : World → Text → List Text → World
with_drawn w name serials = record w { rows = w.rows ++ map (fresh_row (gtin_of w name) name) serials }

-- the named rows are rewritten
unfoldable pub rewrite : (Row → Row) → List Epc → Row → Row
rewrite change names row = if is_among names (name_of row) then change row else row

unfoldable pub with_rows : World → (Row → Row) → List Epc → World
with_rows w change names = record w { rows = map (rewrite change names) w.rows }

-- the first Fresh rows of the batch
unfoldable pub lent_rows : World → Text → ℕ → List Row
lent_rows w name count = take count (fresh_rows w name)

abbrev pub lent_to : ℕ → Row → Row
lent_to station row = record row { line = Some station; state = Lent }

-- the row in the state to which the deed moves it
unfoldable pub moved_row : Deed → Row → Row
moved_row deed row = record row { state = unwrap_or (moved deed row.state) row.state }

unfoldable pub with_unit : Setup → World → Text → Level → World
with_unit site w name level = record w { units = w.units ++ record { sscc = code_of site (length w.units); batch = name; level = level; mark = mark.Filling } ∷ [] }

unfoldable pub marked : Mark → Text → Container → Container
marked to sscc unit = if same unit.sscc sscc then record unit { mark = to } else unit

unfoldable pub with_mark : World → Mark → Text → World
with_mark w to sscc = record w { units = map (marked to sscc) w.units }

abbrev pub put_in : Text → Epc → Pair
put_in sscc child = record { child = child; parent = sscc }

unfoldable pub with_children : World → Text → List Epc → World
with_children w sscc children = record w { pairs = w.pairs ++ map (put_in sscc) children }

unfoldable pub without_children : World → List Epc → World
without_children w children = record w { pairs = filter (λ pair. not (is_among children pair.child)) w.pairs }

unfoldable pub emptied : World → Text → World
emptied w sscc = record w { pairs = filter (λ pair. not (same pair.parent sscc)) w.pairs }

unfoldable pub with_declaration : World → Declaration → World
with_declaration w said = record w { declarations = w.declarations ++ said ∷ [] }

-- the deed of the station, with the serials that it drew
unfoldable pub effect : Setup → World → ℕ → Deed → List Text → World
effect site w station (Order row) drawn = with_orders w (row ∷ [])
effect site w station (Orders rows) drawn = with_orders w rows
effect site w station (Start name) drawn = with_phase w Started name
effect site w station (Draw name count) drawn = with_drawn w name drawn
effect site w station (Lend name count) drawn = with_rows w (lent_to station) (map name_of (lent_rows w name count))
effect site w station (MakeUnit name level) drawn = with_unit site w name level
effect site w station (Pack unit children) drawn = with_children w unit children
effect site w station (Unpack unit children) drawn = without_children w children
effect site w station (UnpackAll unit) drawn = emptied w unit
effect site w station (Seal unit) drawn = with_mark w mark.Sealed unit
effect site w station (Unseal unit) drawn = with_mark w mark.Filling unit
effect site w station (Void unit) drawn = with_mark w mark.Void unit
effect site w station (Declare name good spoiled returned) drawn =
    with_declaration w (record { batch = name; line = station; good = good; spoiled = spoiled; returned = returned })
effect site w station (Close name) drawn = with_phase w Closed name
effect site w station (Amend name quantity) drawn = with_quantity w quantity name
effect site w station deed drawn = with_rows w (moved_row deed) (named w deed)
