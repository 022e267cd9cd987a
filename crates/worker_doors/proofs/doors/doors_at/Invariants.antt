use Rattle.std.proofs.Common.{◌≡◌, ◌≤◌, length, vec_capacity}
use Rattle.worker_doors.proofs.Sharing.{HaveShares, told_by}
use Rattle.worker_doors.proofs.doors.doors_at.Given as goal

abbrev pub invariant-loop-worker : goal.invariant-loop-worker
invariant-loop-worker l = record {
  count : length l.doors.items ≡ l.worker;
  room : l.words.workers ≤ vec_capacity l.doors;
  within : l.worker ≤ l.words.workers;
  have : HaveShares told_by l.words l.doors.items;
}
