-- What is seen of a batch: filters of the world after a history, and of its moves.
use Rattle.std.specs.Prelude.{ℕ, Bool, not, ◌&&◌, List, length, filter, filter_map, Option, option_map}
use Rattle.deed_words.specs.Names.{Text}
use Rattle.deed_words.specs.Setups.{Setup}
use Rattle.deed_words.specs.declared.entry.Entry.{Entry}
use Rattle.deed_words.specs.declared.words.Level.{Level}
use Rattle.deed_words.specs.declared.world.Batch.{Batch}
use Rattle.deed_words.specs.declared.world.Container.{Container}
use Rattle.deed_words.specs.Chain.{each_from, when}
use Rattle.deed_words.specs.Moves.{is_lent, is_active, is_void}
use Rattle.deed_words.specs.World.{World, batch_of, rows_in, units_in}
use Rattle.deed_words.specs.Accounts.{is_case, how_many, has_line, line_numbers}
use Rattle.deed_words.specs.Counts.{is_unused, is_sampled, counts_as_rejected, is_gone}
use Rattle.deed_words.specs.Happenings.{moves_of}
use Rattle.deed_words.specs.History.{world_of}
use Rattle.item_store.specs.declared.row.Counts.{Counts}
use Rattle.batch_report.specs.declared.view.BatchView.{BatchView}
use Rattle.batch_report.specs.declared.view.LineRow.{LineRow}
use Rattle.batch_report.specs.Texts.{report_of}

-- how many serials were drawn for the batch, and how they stand
unfoldable pub counts_in : World → Text → Counts
counts_in w name = record {
  drawn = length (rows_in w name);
  unused = how_many is_unused (rows_in w name);
  lent = how_many is_lent (rows_in w name);
  commissioned = how_many is_active (rows_in w name);
  sampled = how_many is_sampled (rows_in w name);
  rejected = how_many counts_as_rejected (rows_in w name);
  destroyed = how_many is_gone (rows_in w name);
}

-- the unit is of such a level, and isn't void
unfoldable pub is_used : (Level → Bool) → Container → Bool
is_used test unit = test unit.level && not (is_void unit.mark)

unfoldable pub is_pallet : Level → Bool
is_pallet level = not (is_case level)

-- how many such units the batch has
unfoldable pub units_used : World → Text → (Level → Bool) → ℕ
units_used w name test = length (filter (is_used test) (units_in w name))

-- the lines that were lent serials of the batch, in the order of the stations
unfoldable pub lines_of : Setup → World → Text → List LineRow
lines_of site w name =
    filter_map (λ row. row)
    (each_from 0 (λ line station. when (has_line w name line) (record { name = station.name; numbers = line_numbers w name line })) site.stations)

-- what is seen of a batch of the world, where it has so many events
unfoldable pub view_in : Setup → World → ℕ → Batch → BatchView
view_in site w events batch = record {
  row = batch.order;
  quantity = batch.quantity;
  phase = batch.phase;
  counts = counts_in w batch.order.batch;
  cases = units_used w batch.order.batch is_case;
  pallets = units_used w batch.order.batch is_pallet;
  events = events;
  lines = lines_of site w batch.order.batch;
}

-- what is seen of a batch after a history
unfoldable pub view_of : Setup → List Entry → Batch → BatchView
view_of site history batch = view_in site (world_of site history) (length (moves_of site history batch.order.batch)) batch

-- the report of the batch of that name, if there is one
unfoldable pub report_text : Setup → List Entry → Text → Option Text
report_text site history name = option_map (λ batch. report_of (view_of site history batch)) (batch_of (world_of site history) name)
