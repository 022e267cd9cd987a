use Rattle.std.proofs.Common.{◌≡◌, take, vec_capacity}
use Rattle.site_turns.specs.Outcomes.{AreSaid}
use Rattle.site_turns.proofs.responding.respond.Given as goal

abbrev pub invariant-loop-outcome : goal.invariant-loop-outcome
invariant-loop-outcome l = AreSaid l.setup (take l.outcome-index l.outcomes) l.said.items × (vec_capacity l.said ≡ vec_capacity l.initial.said)
