use Rattle.std.proofs.Common.{◌≡◌, length}
use Rattle.site_stores.specs.Changes.{turned_back, WereTurned}
use Rattle.site_stores.proofs.changing.turn_items_back.Given as goal

abbrev pub invariant-loop-turn : goal.invariant-loop-turn
invariant-loop-turn l = record {
  were : WereTurned l.items.rows l.left;
  rows : turned_back l.items.rows l.left ≡ turned_back l.fn.items.rows l.turns;
  spare : l.items.spare ≡ l.fn.items.spare;
}

abbrev pub decreases-loop-turn : goal.decreases-loop-turn
decreases-loop-turn l = length l.left
