use Rattle.std.proofs.Common.{◌≡◌, vec_len}
use Rattle.turn_desk.specs.Tokens.{IsCrew}
use Rattle.desk_tests.proofs.turn_desk_tests.in_order.Given as goal

abbrev pub invariant-loop-at : goal.invariant-loop-at
invariant-loop-at g l = (vec_len l.passes ≡ 2) × IsCrew l.desk l.passes.items
