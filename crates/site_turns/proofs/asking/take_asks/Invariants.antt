use Rattle.std.proofs.Common.{◌≡◌, length, vec_capacity, ℕ}
use Rattle.site_store.specs.Asked.{AreOf}
use Rattle.site_turns.specs.Taking.{AreTaken}
use Rattle.site_turns.proofs.asking.take_asks.Given as goal

abbrev pub invariant-asks : goal.invariant-asks
invariant-asks l = AreTaken l.setup l.initial.posts.items l.asks.items l.posts.items × AreOf l.setup l.asks.items × (vec_capacity l.asks ≡ vec_capacity l.initial.asks)

abbrev pub decreases-asks : goal.decreases-asks
decreases-asks l = length l.posts.items
