use Rattle.std.proofs.Common.{◌≡◌, ℕ, ◌-◌, ◌<◌, ◌≤◌, false, length, get_or}
use Rattle.item_store.specs.declared.row.ItemRow.{ItemRow}
use Rattle.item_store.specs.Rows.{batches, is_in}
use Rattle.item_store.proofs.walk.first_from.Given as goal

abbrev pub invariant-loop-at : goal.invariant-loop-at
invariant-loop-at l = record {
  own : l.at < length l.rows → get_or (batches l.rows) l.at 0 ≡ l.batch;
  others : (i : ℕ) (d : ItemRow) → l.from ≤ i → i < l.at → i < length l.rows → is_in l.batch l.state (get_or l.rows i d) ≡ false;
}

abbrev pub decreases-loop-at : goal.decreases-loop-at
decreases-loop-at l = length l.rows - l.at
