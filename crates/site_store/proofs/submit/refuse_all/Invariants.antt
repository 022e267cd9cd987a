use Rattle.std.proofs.Common.{◌≡◌, ◌≤◌, ◌+◌, ◌++◌, length, map, vec_len, vec_capacity}
use Rattle.std.specs.Vec.Iter.{into_iter_items, into_iter_len}
use Rattle.deed_words.specs.declared.entry.Ask.{Ask}
use Rattle.site_store.specs.Refusals.{refusal_of}
use Rattle.site_store.proofs.submit.refuse_all.Given as goal

abbrev pub invariant-asks : goal.invariant-asks
invariant-asks l = record {
  all : l.outcomes.items ++ map (λ (ask : Ask). refusal_of l.refusal) (into_iter_items l.rest) ≡ map (λ (ask : Ask). refusal_of l.refusal) l.fn.asks.items;
  spare : vec_len l.outcomes + length (into_iter_items l.rest) ≤ vec_capacity l.outcomes;
}

abbrev pub decreases-asks : goal.decreases-asks
decreases-asks l = into_iter_len l.rest
