-- What a deed changes in the stores, by place, with what was there before.
use Rattle.std.specs.Prelude.{◌≡◌, ◌≢◌, ℕ, ◌+◌, ◌-◌, ◌<◌, List, [], ◌∷◌, ◌++◌, None, Some, length, map, take, All, false}
use Rattle.std.specs.List.{position, slice_get}
use Rattle.epc_urn.specs.declared.epc.Epc.{Epc}
use Rattle.epc_urn.specs.declared.epc.Epc.TheVariants.{Item}
use Rattle.deed_words.specs.Names.{Text}
use Rattle.deed_words.specs.declared.deed.OrderRow.{OrderRow}
use Rattle.deed_words.specs.declared.words.Phase.{Phase}
use Rattle.deed_words.specs.declared.words.Phase.TheVariants.{Started, Closed}
use Rattle.deed_words.specs.declared.words.Mark.{Mark}
use Rattle.deed_words.specs.declared.world.Batch.{Batch}
use Rattle.item_store.specs.declared.row.ItemRow.{ItemRow}
use Rattle.item_store.specs.Rows.{changed, fresh_row, is_named, IsLined}
use Rattle.pack_tree.specs.declared.node.UnitRow.{UnitRow}
use Rattle.pack_tree.specs.Many.{with_all_put, MayPut, but_all_put, without_all, MayTake, with_all_back}
use Rattle.pack_tree.specs.Stepping.{stepped, MayStep, stepped_back, WereStepped}
use Rattle.pack_tree.specs.Units.{is_coded, marked, new_unit}
use Rattle.batch_book.specs.Batches.{is_called, planned, phased, amended}
use Rattle.batch_book.specs.Content.{Content}
use Rattle.batch_book.specs.Said.{declared}
use Rattle.site_stores.specs.declared.change.Turn.{Turn}
use Rattle.site_stores.specs.declared.change.Change.{Change}
use Rattle.site_stores.specs.declared.change.Change.TheVariants.{Nothing, Turned, Put, Taken, Phased, Amended, Marked, Said, Made, Ordered, Drawn}
use Rattle.site_stores.specs.Holding.{Room, IsWhole, packed_in, with_packed}

-- ---- rows that stand otherwise

abbrev pub one_turned : List ItemRow → Turn → List ItemRow
one_turned rows turn = changed rows turn.item turn.new_line turn.new_state

abbrev pub one_turned_back : List ItemRow → Turn → List ItemRow
one_turned_back rows turn = changed rows turn.item turn.old_line turn.old_state

-- the row is there, and stands as it stood before the turn
pub record IsTurn (rows : List ItemRow) (turn : Turn) : Type 0 where
  pub row : ItemRow
  pub there : slice_get rows turn.item ≡ Some row
  pub line : row.line ≡ turn.old_line
  pub state : row.state ≡ turn.old_state
  pub old_lined : IsLined turn.old_line turn.old_state
  pub new_lined : IsLined turn.new_line turn.new_state

abbrev pub turned : List ItemRow → List Turn → List ItemRow
turned rows turns = stepped one_turned rows turns

abbrev pub MayTurn : List ItemRow → List Turn → Type 0
MayTurn rows turns = MayStep one_turned IsTurn rows turns

abbrev pub turned_back : List ItemRow → List Turn → List ItemRow
turned_back rows turns = stepped_back one_turned_back rows turns

abbrev pub WereTurned : List ItemRow → List Turn → Type 0
WereTurned rows turns = WereStepped one_turned IsTurn rows turns

-- ---- batches that are new

abbrev pub one_ordered : List Batch → OrderRow → List Batch
one_ordered batches order = batches ++ planned order ∷ []

abbrev pub one_fewer : List Batch → OrderRow → List Batch
one_fewer batches order = take (length batches - 1) batches

-- no batch has the name
pub record IsNew (batches : List Batch) (order : OrderRow) : Type 0 where
  pub new : All (λ batch. is_called order.batch batch ≡ false) batches

abbrev pub ordered : List Batch → List OrderRow → List Batch
ordered batches orders = stepped one_ordered batches orders

abbrev pub MayOrder : List Batch → List OrderRow → Type 0
MayOrder batches orders = MayStep one_ordered IsNew batches orders

abbrev pub unordered : List Batch → List OrderRow → List Batch
unordered batches orders = stepped_back one_fewer batches orders

abbrev pub WereOrdered : List Batch → List OrderRow → Type 0
WereOrdered batches orders = WereStepped one_ordered IsNew batches orders

-- ---- rows that are drawn

abbrev pub one_drawn : ℕ → Text → List ItemRow → Text → List ItemRow
one_drawn batch gtin rows serial = rows ++ fresh_row gtin serial batch ∷ []

abbrev pub one_undrawn : List ItemRow → Text → List ItemRow
one_undrawn rows serial = take (length rows - 1) rows

-- no row has the name
pub record IsNewRow (gtin : Text) (rows : List ItemRow) (serial : Text) : Type 0 where
  pub new : All (λ row. is_named gtin serial row ≡ false) rows

abbrev pub drawn : ℕ → Text → List ItemRow → List Text → List ItemRow
drawn batch gtin rows serials = stepped (one_drawn batch gtin) rows serials

abbrev pub MayDraw : ℕ → Text → List ItemRow → List Text → Type 0
MayDraw batch gtin rows serials = MayStep (one_drawn batch gtin) (IsNewRow gtin) rows serials

abbrev pub undrawn : List ItemRow → List Text → List ItemRow
undrawn rows serials = stepped_back one_undrawn rows serials

abbrev pub WereDrawn : ℕ → Text → List ItemRow → List Text → Type 0
WereDrawn batch gtin rows serials = WereStepped (one_drawn batch gtin) (IsNewRow gtin) rows serials

-- ---- one batch, one unit, one declaration

-- the batch is in this phase
pub record IsPhased (c : Content) (batch : ℕ) (phase : Phase) : Type 0 where
  pub kept : Batch
  pub there : slice_get c.batches batch ≡ Some kept
  pub is : kept.phase ≡ phase

-- the batch isn't closed, and is to be of so many items
pub record IsOpen (c : Content) (batch quantity : ℕ) : Type 0 where
  pub kept : Batch
  pub there : slice_get c.batches batch ≡ Some kept
  pub open_ : kept.phase ≢ Closed
  pub is : kept.quantity ≡ quantity

-- the unit has this mark
pub record IsMarked (c : Content) (unit : ℕ) (mark : Mark) : Type 0 where
  pub kept : UnitRow
  pub there : slice_get c.units unit ≡ Some kept
  pub is : kept.mark ≡ mark

-- the batch is there, and no unit has the code
pub record IsNewUnit (c : Content) (sscc : Text) (batch : ℕ) : Type 0 where
  pub there : batch < length c.batches
  pub new : position (is_coded sscc) c.units ≡ None

-- the batch is there, and no row has one of the names
pub record AreNewRows (c : Content) (batch : ℕ) (gtin : Text) (serials : List Text) : Type 0 where
  pub there : batch < length c.batches
  pub may : MayDraw batch gtin c.rows serials

-- ---- a change

abbrev pub applied : Content → Change → Content
applied c Nothing = c
applied c (Turned turns) = record c { rows = turned c.rows turns }
applied c (Put unit nodes) = with_packed c (with_all_put (packed_in c) unit nodes)
applied c (Taken gone) = with_packed c (without_all (packed_in c) gone)
applied c (Phased batch old new) = record c { batches = phased c.batches batch new }
applied c (Amended batch old new) = record c { batches = amended c.batches batch new }
applied c (Marked unit old new) = record c { units = marked c.units unit new }
applied c (Said batch line numbers) = record c { said = c.said ++ declared batch line numbers ∷ [] }
applied c (Made sscc batch level) = record c { units = c.units ++ new_unit sscc batch level ∷ [] }
applied c (Ordered orders) = record c { batches = ordered c.batches orders }
applied c (Drawn batch gtin serials) = record c { rows = drawn batch gtin c.rows serials }

abbrev pub taken_back : Content → Change → Content
taken_back c Nothing = c
taken_back c (Turned turns) = record c { rows = turned_back c.rows turns }
taken_back c (Put unit nodes) = with_packed c (but_all_put (packed_in c) nodes)
taken_back c (Taken gone) = with_packed c (with_all_back (packed_in c) gone)
taken_back c (Phased batch old new) = record c { batches = phased c.batches batch old }
taken_back c (Amended batch old new) = record c { batches = amended c.batches batch old }
taken_back c (Marked unit old new) = record c { units = marked c.units unit old }
taken_back c (Said batch line numbers) = record c { said = take (length c.said - 1) c.said }
taken_back c (Made sscc batch level) = record c { units = take (length c.units - 1) c.units }
taken_back c (Ordered orders) = record c { batches = unordered c.batches orders }
taken_back c (Drawn batch gtin serials) = record c { rows = undrawn c.rows serials }

-- the change may be made here, and what was there before is what it says
unfoldable pub MayChange : Content → Change → Type 0
MayChange c Nothing = Unit {0}
MayChange c (Turned turns) = MayTurn c.rows turns
MayChange c (Put unit nodes) = MayPut (packed_in c) unit nodes
MayChange c (Taken gone) = MayTake (packed_in c) gone
MayChange c (Phased batch old new) = IsPhased c batch old
MayChange c (Amended batch old new) = IsOpen c batch old
MayChange c (Marked unit old new) = IsMarked c unit old
MayChange c (Said batch line numbers) = IsPhased c batch Started
MayChange c (Made sscc batch level) = IsNewUnit c sscc batch
MayChange c (Ordered orders) = MayOrder c.batches orders
MayChange c (Drawn batch gtin serials) = AreNewRows c batch gtin serials

pub record MayApply (c : Content) (change : Change) : Type 0 where
  pub whole : IsWhole c
  pub may : MayChange c change

-- this content came of the change
pub record WasApplied (c : Content) (change : Change) : Type 0 where
  pub before : Content
  pub may : MayApply before change
  pub is : c ≡ applied before change

-- nothing is of the last so many batches
pub record AreUnused (c : Content) (count : ℕ) : Type 0 where
  pub rows : All (λ row. row.batch + count < length c.batches) c.rows
  pub units : All (λ unit. unit.batch + count < length c.batches) c.units
  pub said : All (λ said. said.batch + count < length c.batches) c.said

-- the names of the rows that a change draws
abbrev pub names_drawn : Change → List Epc
names_drawn (Drawn batch gtin serials) = map (Item gtin) serials
names_drawn change = []

-- ---- room

abbrev pub no_room : Room
no_room = record { batches = 0; declarations = 0; rows = 0; units = 0 }

-- the room that a change takes
abbrev pub room_for : Change → Room
room_for (Said batch line numbers) = record { batches = 0; declarations = 1; rows = 0; units = 0 }
room_for (Made sscc batch level) = record { batches = 0; declarations = 0; rows = 0; units = 1 }
room_for (Ordered orders) = record { batches = length orders; declarations = 0; rows = 0; units = 0 }
room_for (Drawn batch gtin serials) = record { batches = 0; declarations = 0; rows = length serials; units = 0 }
room_for change = no_room

-- both rooms together
abbrev pub with_room : Room → Room → Room
with_room room more = record {
  batches = room.batches + more.batches;
  declarations = room.declarations + more.declarations;
  rows = room.rows + more.rows;
  units = room.units + more.units;
}
