use Rattle.std.proofs.Common.{◌≡◌, ◌+◌, ◌≤◌, ◌++◌, length, map, reverse, vec_capacity}
use Rattle.site_service.specs.Workers.{pass_of, door_of}
use Rattle.site_service.proofs.worker.pair.Given as goal

abbrev pub invariant-loop-pass : goal.invariant-loop-pass
invariant-loop-pass g l =
    (l.fn.passes.items ≡ l.passes.items ++ reverse (map pass_of l.workers.items)) × (l.fn.doors.items ≡ l.doors.items ++ reverse (map door_of l.workers.items))
    × (length l.passes.items ≡ length l.doors.items) × (length l.passes.items + length l.workers.items ≤ vec_capacity l.workers)
    × (vec_capacity l.passes ≡ vec_capacity l.fn.passes) × (vec_capacity l.doors ≡ vec_capacity l.fn.doors)

abbrev pub decreases-loop-pass : goal.decreases-loop-pass
decreases-loop-pass g l = length l.passes.items
