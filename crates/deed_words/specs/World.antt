-- The world of a site: five plain lists.
use Rattle.std.specs.Prelude.{List, [], map, filter, find, Option, option_map}
use Rattle.deed_words.specs.Names.{Text, same, same_name}
use Rattle.epc_urn.specs.declared.epc.Epc.{Epc}
use Rattle.epc_urn.specs.declared.epc.Epc.TheVariants.{Item, Unit as Box}
use Rattle.deed_words.specs.declared.world.Batch.{Batch}
use Rattle.deed_words.specs.declared.world.Row.{Row}
use Rattle.deed_words.specs.declared.world.Container.{Container}
use Rattle.deed_words.specs.declared.world.Pair.{Pair}
use Rattle.deed_words.specs.declared.world.Declaration.{Declaration}

pub record World : Type 0 where
  pub batches : List Batch
  pub rows : List Row
  pub units : List Container
  pub pairs : List Pair
  pub declarations : List Declaration

abbrev pub nothing_yet : World
nothing_yet = record { batches = []; rows = []; units = []; pairs = []; declarations = [] }

-- the name of a row
abbrev pub name_of : Row → Epc
name_of row = Item row.gtin row.serial

-- the batch of that name
unfoldable pub batch_of : World → Text → Option Batch
batch_of w name = find (λ batch. same batch.order.batch name) w.batches

-- the row of that item
unfoldable pub row_of : World → Text → Text → Option Row
row_of w gtin serial = find (λ row. same_name (name_of row) (Item gtin serial)) w.rows

-- the unit of that code
unfoldable pub unit_of : World → Text → Option Container
unit_of w sscc = find (λ unit. same unit.sscc sscc) w.units

-- what the thing stands in
unfoldable pub parent : World → Epc → Option Text
parent w name = option_map (λ pair. pair.parent) (find (λ pair. same_name pair.child name) w.pairs)

-- what stands in the unit, the longest inside first
unfoldable pub inside : World → Text → List Epc
inside w sscc = map (λ pair. pair.child) (filter (λ pair. same pair.parent sscc) w.pairs)

-- the rows of the batch, in drawn order
unfoldable pub rows_in : World → Text → List Row
rows_in w name = filter (λ row. same row.batch name) w.rows

-- the units of the batch, in order of making
unfoldable pub units_in : World → Text → List Container
units_in w name = filter (λ unit. same unit.batch name) w.units

-- the batch that the thing is of
unfoldable pub home : World → Epc → Option Text
home w (Item gtin serial) = option_map (λ row. row.batch) (row_of w gtin serial)
home w (Box sscc) = option_map (λ unit. unit.batch) (unit_of w sscc)
