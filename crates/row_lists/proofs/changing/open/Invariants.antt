use Rattle.std.proofs.Common.{◌≡◌, ◌≤◌, [], ℕ, length}
use Rattle.std.specs.Prelude.{slice_index, slice_index_or}
use Rattle.row_lists.specs.Lists.{rows_in, rooms_in}
use Rattle.row_lists.proofs.changing.open.Given as goal

abbrev pub invariant-loop : goal.invariant-loop
invariant-loop l = record {
  rows : (other : ℕ) → slice_index_or (rows_in l.lists.items) other [] ≡ slice_index_or (rows_in l.fn.lists.items) other [];
  rooms : (other : ℕ) → slice_index (rooms_in l.lists.items) other ≡ slice_index (rooms_in l.fn.lists.items) other;
  long : l.counter ≤ length l.lists.items;
}
