use Rattle.std.proofs.Common.{◌≡◌, ◌≤◌, take, drop}
use Rattle.site_core.specs.Seen.{moves_seen}
use Rattle.site_core.proofs.site.Site.moves_between.Given as goal

-- those so far
abbrev pub invariant-loop-at : goal.invariant-loop-at
invariant-loop-at l = record {
  told : l.some ≡ drop l.fn.first (take l.at (moves_seen l.self.setup l.self.history l.batch));
  low : l.fn.first ≤ l.at;
  high : l.at ≤ l.fn.past;
}
