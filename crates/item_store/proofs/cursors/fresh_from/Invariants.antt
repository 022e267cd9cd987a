use Rattle.std.proofs.Common.{◌≡◌, ◌-◌, ◌<◌, ◌≤◌, ◌++◌, length, drop, get_or}
use Rattle.deed_words.specs.declared.words.State.TheVariants.{Fresh}
use Rattle.item_store.specs.Rows.{batches, is_in, places_of}
use Rattle.item_store.proofs.cursors.fresh_from.Given as goal

abbrev pub invariant-loop-at : goal.invariant-loop-at
invariant-loop-at l = record {
  own : l.at < length l.rows → get_or (batches l.rows) l.at 0 ≡ l.batch;
  few : length l.ids ≤ l.count;
  told : l.ids ++ places_of (is_in l.batch Fresh) l.at (drop l.at l.rows)
      ≡ places_of (is_in l.batch Fresh) l.from (drop l.from l.rows);
}

abbrev pub decreases-loop-at : goal.decreases-loop-at
decreases-loop-at l = length l.rows - l.at
