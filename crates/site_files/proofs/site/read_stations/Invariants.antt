use Rattle.std.proofs.Common.{◌≡◌, drop, [], length, true}
use Rattle.std.specs.List.{IsDistinct}
use Rattle.toml.specs.View.{items_view}
use Rattle.deed_words.specs.Names.{same}
use Rattle.deed_words.specs.Setups.{names_of}
use Rattle.site_files.specs.Sites.{stations_after}
use Rattle.site_files.proofs.site.read_stations.Given as goal

abbrev pub invariant-loop-entry : goal.invariant-loop-entry
invariant-loop-entry l = record {
  due : stations_after [] (items_view l.entries) ≡ stations_after l.stations (items_view (drop l.entry-index l.entries));
  size : length l.stations ≡ l.entry-index;
  differ : IsDistinct same (names_of l.stations);
}
