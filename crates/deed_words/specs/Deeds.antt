-- What a deed speaks of.
use Rattle.std.specs.Prelude.{List, [], ◌∷◌, map, Option}
use Rattle.std.specs.Option.{option_map_or}
use Rattle.deed_words.specs.Names.{Text}
use Rattle.gs1_element.specs.declared.code.Code.{Code}
use Rattle.epc_urn.specs.declared.epc.Epc.{Epc}
use Rattle.epc_urn.specs.declared.epc.Epc.TheVariants.{Item}
use Rattle.deed_words.specs.declared.deed.OrderRow.{OrderRow}
use Rattle.deed_words.specs.declared.deed.Deed.{Deed}
use Rattle.deed_words.specs.declared.deed.Deed.TheVariants.{Order, Orders, Start, Draw, Lend, Commission, Spoil, Giveback, Sample, Reject, Reinstate, Destroy, Decommission, Container as MakeUnit, Pack, Unpack, UnpackAll, Seal, Unseal, Void, Declare, Close, Amend}
use Rattle.deed_words.specs.declared.world.Batch.{Batch}
use Rattle.deed_words.specs.World.{World, batch_of, unit_of}

-- the order rows of the deed
unfoldable pub order_rows : Deed → List OrderRow
order_rows (Order row) = row ∷ []
order_rows (Orders rows) = rows
order_rows deed = []

-- the unit that the deed names
unfoldable pub unit_named : Deed → Text
unit_named (Pack unit children) = unit
unit_named (Unpack unit children) = unit
unit_named (UnpackAll unit) = unit
unit_named (Seal unit) = unit
unit_named (Unseal unit) = unit
unit_named (Void unit) = unit
unit_named deed = []

-- the batch that the unit is of
unfoldable pub batch_with : World → Text → Text
batch_with w sscc = option_map_or (λ unit. unit.batch) (unit_of w sscc) []

-- the name of the batch that the deed is about
unfoldable pub batch_named : World → Deed → Text
batch_named w (Start name) = name
batch_named w (Draw name count) = name
batch_named w (Lend name count) = name
batch_named w (Commission name codes) = name
batch_named w (Spoil name serials) = name
batch_named w (Giveback name serials) = name
batch_named w (Sample name items) = name
batch_named w (Reject name items) = name
batch_named w (Reinstate name items) = name
batch_named w (Destroy name items) = name
batch_named w (Decommission name items) = name
batch_named w (MakeUnit name level) = name
batch_named w (Declare name good spoiled returned) = name
batch_named w (Close name) = name
batch_named w (Amend name quantity) = name
batch_named w deed = batch_with w (unit_named deed)

-- that batch
unfoldable pub batch_for : World → Deed → Option Batch
batch_for w deed = batch_of w (batch_named w deed)

abbrev pub item_of : Code → Epc
item_of code = Item code.gtin code.serial

-- the items of the batch with these serials
unfoldable pub items_of : World → Text → List Text → List Epc
items_of w name serials = option_map_or (λ batch. map (Item batch.order.gtin) serials) (batch_of w name) []

-- the things that the deed names
unfoldable pub named : World → Deed → List Epc
named w (Commission name codes) = map item_of codes
named w (Spoil name serials) = items_of w name serials
named w (Giveback name serials) = items_of w name serials
named w (Sample name items) = items
named w (Reject name items) = items
named w (Reinstate name items) = items
named w (Destroy name items) = items
named w (Decommission name items) = items
named w (Pack unit children) = children
named w (Unpack unit children) = children
named w deed = []
