use Rattle.std.proofs.Common.{◌≡◌, drop, [], length}
use Rattle.serde_json.specs.View.{items_view}
use Rattle.deed_json.specs.Deeds.{serials_after}
use Rattle.deed_json.proofs.list.serials_in.Given as goal

abbrev pub invariant-loop-entry : goal.invariant-loop-entry
invariant-loop-entry l = record {
  due : serials_after [] (items_view l.entries) ≡ serials_after l.serials (items_view (drop l.entry-index l.entries));
  size : length l.serials ≡ l.entry-index;
}
