-- A sound world.
use Rattle.std.specs.Prelude.{◌≡◌, ◌≤◌, true, false, map, length, Some, is_none, is_some, ◌+◌}
use Rattle.std.specs.List.{AllByRecursion as Every, IsDistinct}
use Rattle.epc_urn.specs.declared.epc.Epc.{Epc}
use Rattle.epc_urn.specs.declared.epc.Epc.TheVariants.{Item, Unit as Box}
use Rattle.deed_words.specs.Setups.{Setup, code_of, reference_bound}
use Rattle.deed_words.specs.declared.words.Level.TheVariants.{Case, Pallet}
use Rattle.deed_words.specs.declared.words.Phase.TheVariants.{Planned}
use Rattle.deed_words.specs.declared.words.State.TheVariants.{Active}
use Rattle.deed_words.specs.declared.words.Mark.TheVariants.{Sealed}
use Rattle.deed_words.specs.Names.{same, same_name}
use Rattle.deed_words.specs.Chain.{numbers_below, is_empty}
use Rattle.deed_words.specs.Moves.{is_fresh, is_sealed, is_void}
use Rattle.deed_words.specs.declared.world.Batch.{Batch}
use Rattle.deed_words.specs.declared.world.Row.{Row}
use Rattle.deed_words.specs.declared.world.Container.{Container}
use Rattle.deed_words.specs.declared.world.Pair.{Pair}
use Rattle.deed_words.specs.World.{World, name_of, batch_of, row_of, unit_of, inside, rows_in, units_in}

-- the row's batch stands, and has the row's GTIN
unfoldable pub HasBatch : World → Row → Type 0
HasBatch w row = (batch : Batch) × (batch_of w row.batch ≡ Some batch) × (batch.order.gtin ≡ row.gtin)

-- an Active row may stand in a case, and a Sealed case in a pallet
unfoldable pub MayStandIn : World → Container → Epc → Type 0
MayStandIn w unit (Item gtin serial) =
    (row : Row) × (row_of w gtin serial ≡ Some row) × (row.state ≡ Active) × (row.batch ≡ unit.batch) × (unit.level ≡ Case)
MayStandIn w unit (Box sscc) =
    (box : Container) × (unit_of w sscc ≡ Some box) × (box.level ≡ Case) × (box.mark ≡ Sealed) × (box.batch ≡ unit.batch) × (unit.level ≡ Pallet)

unfoldable pub StandsRightly : World → Pair → Type 0
StandsRightly w pair = (unit : Container) × (unit_of w pair.parent ≡ Some unit) × (is_void unit.mark ≡ false) × MayStandIn w unit pair.child

unfoldable pub IsUntouched : World → Batch → Type 0
IsUntouched w batch =
    batch.phase ≡ Planned → Every (λ row. is_fresh row.state ≡ true) (rows_in w batch.order.batch) × (is_empty (units_in w batch.order.batch) ≡ true)

pub record IsSound (site : Setup) (w : World) : Type 0 where
  pub batches_differ : IsDistinct same (map (λ batch. batch.order.batch) w.batches)
  pub rows_differ : IsDistinct same_name (map name_of w.rows)
  pub of_a_batch : Every (HasBatch w) w.rows
  pub units_of_a_batch : Every (λ unit. is_some (batch_of w unit.batch) ≡ true) w.units
  pub issued : map (λ unit. unit.sscc) w.units ≡ map (code_of site) (numbers_below (length w.units))
  pub fresh : Every (λ row. is_fresh row.state ≡ is_none row.line) w.rows
  pub one_parent : IsDistinct same_name (map (λ pair. pair.child) w.pairs)
  pub packed : Every (StandsRightly w) w.pairs
  pub sealed : Every (λ unit. is_sealed unit.mark ≡ true → is_empty (inside w unit.sscc) ≡ false) w.units
  pub planned : Every (IsUntouched w) w.batches
  pub in_range : site.reference + length w.units ≤ reference_bound site
  pub few_serials : length w.rows ≤ 1000000
  pub few_units : length w.units ≤ 65536
  pub few_batches : length w.batches ≤ 4096
