use Rattle.std.proofs.Common.{◌≡◌, ◌≤◌, ◌-◌, ◌++◌, length, map, drop, vec_len, vec_capacity}
use Rattle.site_store.specs.declared.outcome.Outcome.{Outcome}
use Rattle.site_store.specs.declared.outcome.Outcome.TheVariants.{DiskFault}
use Rattle.site_store.specs.Going.{lost_after}
use Rattle.site_store.proofs.submit.fail_from.Given as goal

abbrev pub invariant-lost : goal.invariant-lost
invariant-lost l = record {
  all : l.outcomes.items ++ map (λ (o : Outcome). DiskFault) (drop (vec_len l.outcomes) l.fn.outcomes.items) ≡ lost_after l.kept l.fn.outcomes.items;
  fits : vec_len l.outcomes ≤ l.count;
  count : l.count ≡ length l.fn.outcomes.items;
  spare : l.count ≤ vec_capacity l.outcomes;
}

abbrev pub decreases-lost : goal.decreases-lost
decreases-lost l = l.count - vec_len l.outcomes
