-- Where the thing of a name is.
use Rattle.std.specs.Prelude.{◌≡◌, List, Option, Some, map, option_map}
use Rattle.std.specs.List.{position}
use Rattle.epc_urn.specs.declared.epc.Epc.{Epc}
use Rattle.epc_urn.specs.declared.epc.Epc.TheVariants.{Item, Unit as Box}
use Rattle.item_store.specs.declared.row.ItemRow.{ItemRow}
use Rattle.item_store.specs.Rows.{is_named}
use Rattle.pack_tree.specs.declared.node.Node.{Node}
use Rattle.pack_tree.specs.declared.node.Node.TheVariants.{Item as AnItem, Unit as AUnit}
use Rattle.pack_tree.specs.declared.node.UnitRow.{UnitRow}
use Rattle.pack_tree.specs.Units.{is_coded}
use Rattle.batch_book.specs.Content.{Content}

unfoldable pub place_of : List ItemRow → List UnitRow → Epc → Option Node
place_of rows units (Item gtin serial) = option_map AnItem (position (is_named gtin serial) rows)
place_of rows units (Box sscc) = option_map AUnit (position (is_coded sscc) units)

-- the things of these names are there, at these places
abbrev pub AreAt : Content → List Epc → List Node → Type 0
AreAt c names nodes = map (place_of c.rows c.units) names ≡ map Some nodes
