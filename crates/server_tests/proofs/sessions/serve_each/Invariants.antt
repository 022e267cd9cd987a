use Rattle.std.proofs.Common.{◌≡◌, vec_len}
use Rattle.turn_desk.specs.Tokens.{IsCrew}
use Rattle.server_tests.proofs.sessions.serve_each.Given as goal

abbrev pub invariant-loop-session : goal.invariant-loop-session
invariant-loop-session g l = (vec_len l.passes ≡ 2) × IsCrew l.desk l.passes.items
