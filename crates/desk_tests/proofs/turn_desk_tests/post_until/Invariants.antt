use Rattle.std.proofs.Common.{◌≡◌, ◌-◌}
use Rattle.desk_tests.proofs.turn_desk_tests.post_until.Given as goal

abbrev pub invariant-loop-pass : goal.invariant-loop-pass
invariant-loop-pass g l =
    (l.pass.desk ≡ l.initial.pass.desk) × (l.pass.worker ≡ l.initial.pass.worker) × (l.pass.last ≡ l.initial.pass.last)

abbrev pub decreases-loop-pass : goal.decreases-loop-pass
decreases-loop-pass g l = l.turns - l.pass.turns
