use Rattle.std.proofs.Common.{◌≡◌, ℕ, ◌-◌, ◌<◌, false, length, get_or, Some}
use Rattle.std.specs.List.{slice_get}
use Rattle.item_store.specs.declared.row.ItemRow.{ItemRow}
use Rattle.item_store.specs.Rows.{batches}
use Rattle.batch_book.specs.Closing.{is_unpacked}
use Rattle.batch_book.proofs.packed.first_unpacked.Given as goal

abbrev pub invariant-loop-at : goal.invariant-loop-at
invariant-loop-at l = record {
  own : l.at < length l.items.rows → get_or (batches l.items.rows) l.at 0 ≡ l.fn.batch;
  before : (k : ℕ) (row : ItemRow) → k < l.at → slice_get l.items.rows k ≡ Some row → is_unpacked l.fn.batch l.tree.pairs k row ≡ false;
}

abbrev pub decreases-loop-at : goal.decreases-loop-at
decreases-loop-at l = length l.items.rows - l.at
