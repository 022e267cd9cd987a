use Rattle.std.proofs.Common.{◌≡◌, drop, [], length, true}
use Rattle.std.specs.List.{list_all}
use Rattle.serde_json.specs.View.{items_view}
use Rattle.deed_words.specs.Proper.{is_dated}
use Rattle.deed_json.specs.Deeds.{codes_after}
use Rattle.deed_json.proofs.list.codes_in.Given as goal

abbrev pub invariant-loop-entry : goal.invariant-loop-entry
invariant-loop-entry l = record {
  due : codes_after [] (items_view l.entries) ≡ codes_after l.codes (items_view (drop l.entry-index l.entries));
  size : length l.codes ≡ l.entry-index;
  proper : list_all is_dated l.codes ≡ true;
}
