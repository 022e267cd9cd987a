use Rattle.std.proofs.Common.{◌≡◌, drop, [], length}
use Rattle.serde_json.specs.View.{items_view}
use Rattle.deed_json.specs.Deeds.{epcs_after}
use Rattle.deed_json.proofs.list.epcs_in.Given as goal

abbrev pub invariant-loop-entry : goal.invariant-loop-entry
invariant-loop-entry l = record {
  due : epcs_after l.member [] (items_view l.entries) ≡ epcs_after l.member l.epcs (items_view (drop l.entry-index l.entries));
  size : length l.epcs ≡ l.entry-index;
}
