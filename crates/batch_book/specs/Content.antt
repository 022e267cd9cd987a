-- What the stores of a site hold by number, and the world by name that it is.
use Rattle.std.specs.Prelude.{ℕ, List, [], map, slice_index_or}
use Rattle.epc_urn.specs.declared.epc.Epc.{Epc}
use Rattle.epc_urn.specs.declared.epc.Epc.TheVariants.{Unit as Box}
use Rattle.deed_words.specs.Names.{Text}
use Rattle.deed_words.specs.World.{World}
use Rattle.deed_words.specs.declared.world.Batch.{Batch}
use Rattle.deed_words.specs.declared.world.Row.{Row}
use Rattle.deed_words.specs.declared.world.Container.{Container}
use Rattle.deed_words.specs.declared.world.Pair.{Pair}
use Rattle.deed_words.specs.declared.world.Declaration.{Declaration}
use Rattle.item_store.specs.declared.row.ItemRow.{ItemRow}
use Rattle.item_store.specs.Rows.{Store, item_name}
use Rattle.pack_tree.specs.declared.node.Node.{Node}
use Rattle.pack_tree.specs.declared.node.Node.TheVariants.{Item as AnItem, Unit as AUnit}
use Rattle.pack_tree.specs.declared.node.UnitRow.{UnitRow}
use Rattle.pack_tree.specs.declared.link.Pair.{Pair as Link}
use Rattle.pack_tree.specs.Trees.{Forest}
use Rattle.pack_tree.specs.Units.{code_in}
use Rattle.batch_book.specs.declared.row.DeclarationRow.{DeclarationRow}
use Rattle.batch_book.specs.Batches.{name_in}
use Rattle.batch_book.specs.Ledgers.{Ledger}

-- the lists of the stores: a batch, a row and a unit are named by their places; the last number under which something was put
pub record Content : Type 0 where
  pub batches : List Batch
  pub rows : List ItemRow
  pub units : List UnitRow
  pub links : List Link
  pub last : ℕ
  pub said : List DeclarationRow

-- what a book, the rows and a tree hold together
abbrev pub content_of : Ledger → Store → Forest → Content
content_of book items tree =
    record { batches = book.batches; rows = items.rows; units = tree.units; links = tree.pairs; last = tree.last; said = book.declarations }

-- the names of the batches, of the rows and of the units, by place
abbrev pub batch_names : Content → List Text
batch_names c = map name_in c.batches

abbrev pub row_names : Content → List Epc
row_names c = map item_name c.rows

abbrev pub unit_codes : Content → List Text
unit_codes c = map code_in c.units

-- the name of the batch at a place
abbrev pub name_at : List Batch → ℕ → Text
name_at batches at = slice_index_or (map name_in batches) at []

-- a row, a unit, a link and a declaration with names in place of numbers
abbrev pub row_in : List Text → ItemRow → Row
row_in batches row = record { gtin = row.gtin; serial = row.serial; batch = slice_index_or batches row.batch []; line = row.line; state = row.state }

abbrev pub unit_in : List Text → UnitRow → Container
unit_in batches unit = record { sscc = unit.sscc; batch = slice_index_or batches unit.batch []; level = unit.level; mark = unit.mark }

abbrev pub node_name : List Epc → List Text → Node → Epc
node_name rows units (AnItem at) = slice_index_or rows at (Box [])
node_name rows units (AUnit at) = Box (slice_index_or units at [])

abbrev pub pair_in : List Epc → List Text → Link → Pair
pair_in rows units link = record { child = node_name rows units link.child; parent = slice_index_or units link.parent [] }

abbrev pub said_in : List Text → DeclarationRow → Declaration
said_in batches said =
    record { batch = slice_index_or batches said.batch []; line = said.line; good = said.good; spoiled = said.spoiled; returned = said.returned }

-- the world that the stores hold
abbrev pub world_in : Content → World
world_in c = record {
  batches = c.batches;
  rows = map (row_in (batch_names c)) c.rows;
  units = map (unit_in (batch_names c)) c.units;
  pairs = map (pair_in (row_names c) (unit_codes c)) c.links;
  declarations = map (said_in (batch_names c)) c.said;
}

-- the world that a book, the rows and a tree hold together
abbrev pub world_of : Ledger → Store → Forest → World
world_of book items tree = world_in (content_of book items tree)
