use Rattle.std.proofs.Common.{◌≡◌, ◌+◌, ◌≤◌, ◌++◌, length, map, reverse, vec_capacity}
use Rattle.site_service.specs.Workers.{pass_of, door_of}
use Rattle.site_service.proofs.worker.part.Given as goal

abbrev pub invariant-loop-worker : goal.invariant-loop-worker
invariant-loop-worker g l =
    (reverse (map pass_of l.fn.workers.items) ≡ l.passes.items ++ reverse (map pass_of l.workers.items)) × (reverse (map door_of l.fn.workers.items) ≡ l.doors.items ++ reverse (map door_of l.workers.items))
    × (length l.passes.items + length l.workers.items ≤ vec_capacity l.passes) × (length l.doors.items + length l.workers.items ≤ vec_capacity l.doors)

abbrev pub decreases-loop-worker : goal.decreases-loop-worker
decreases-loop-worker g l = length l.workers.items
