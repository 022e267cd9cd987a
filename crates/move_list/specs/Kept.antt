-- What is kept of a move, and the move again.
use Rattle.std.specs.Prelude.{List, [], ◌∷◌}
use Rattle.epc_urn.specs.declared.epc.Epc.{Epc}
use Rattle.epc_urn.specs.declared.epc.Epc.TheVariants.{Unit as Box}
use Rattle.deed_words.specs.World.{nothing_yet}
use Rattle.deed_words.specs.Deeds.{named}
use Rattle.deed_words.specs.Happenings.{holder_of}
use Rattle.deed_words.specs.declared.deed.Deed.{Deed}
use Rattle.deed_words.specs.declared.deed.Deed.TheVariants.{Container as MakeUnit, UnpackAll, Void}
use Rattle.deed_words.specs.declared.deed.OrderRow.{OrderRow}
use Rattle.deed_words.specs.declared.entry.Entry.{Entry}
use Rattle.deed_words.specs.declared.entry.Move.{Move}
use Rattle.move_list.specs.declared.moved.Moved.{Moved}

-- of the things that a deed is about, those that it doesn't name
unfoldable pub unnamed_in : Deed → List Epc → List Epc
unnamed_in (MakeUnit name level) things = things
unnamed_in (UnpackAll unit) things = things
unnamed_in deed things = []

-- what is kept of a move
unfoldable pub kept_of : Move → Moved
kept_of moved = record { place = moved.place; batch = moved.batch; unnamed = unnamed_in moved.kept.deed moved.epcs }

-- all that the deed is about, where these are what it doesn't name
unfoldable pub things_told : Deed → List Epc → List Epc
things_told (MakeUnit name level) unnamed = unnamed
things_told (UnpackAll unit) unnamed = unnamed
things_told (Void unit) unnamed = Box unit ∷ []
things_told deed unnamed = named nothing_yet deed

-- the move of which this is kept, with its entry and the order of its batch
unfoldable pub move_again : Moved → Entry → OrderRow → Move
move_again moved entry row = record {
  place = moved.place;
  kept = entry;
  batch = moved.batch;
  row = row;
  epcs = things_told entry.deed moved.unnamed;
  parent = holder_of entry.deed;
}
