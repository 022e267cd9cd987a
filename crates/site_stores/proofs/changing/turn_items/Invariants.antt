use Rattle.std.proofs.Common.{◌≡◌, drop}
use Rattle.site_stores.specs.Changes.{turned, MayTurn}
use Rattle.site_stores.proofs.changing.turn_items.Given as goal

abbrev pub invariant-loop-turn : goal.invariant-loop-turn
invariant-loop-turn l = record {
  may : MayTurn l.items.rows (drop l.turn-index l.turns);
  rows : turned l.items.rows (drop l.turn-index l.turns) ≡ turned l.fn.items.rows l.turns;
  spare : l.items.spare ≡ l.fn.items.spare;
}
