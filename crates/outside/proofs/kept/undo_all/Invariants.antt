use Rattle.std.proofs.Common.{◌≡◌, Some}
use Rattle.outside.specs.MemoryDisks.{all_undone}
use Rattle.outside.proofs.kept.undo_all.Given as goal

abbrev pub invariant-writes : goal.invariant-writes
invariant-writes l = all_undone l.writes.items l.bytes.items ≡ Some l.fn.unsynced.synced.value.items

abbrev pub decreases-writes : goal.decreases-writes
decreases-writes l = goal.left-writes l
