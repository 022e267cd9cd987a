use Rattle.std.proofs.Common.{◌≡◌, ◌++◌}
use Rattle.std.specs.Prelude.{All}
use Rattle.std.specs.Vec.Iter.{into_iter_items, into_iter_len}
use Rattle.deed_words.specs.History.{IsLawful}
use Rattle.deed_words.specs.Proper.{IsProperEntry}
use Rattle.site_store.proofs.load.adopt_all.Given as goal

abbrev pub invariant-entries : goal.invariant-entries
invariant-entries l = record {
  setup : l.site.setup ≡ l.fn.site.setup;
  items : l.site.history ++ into_iter_items l.rest ≡ l.fn.site.history ++ l.fn.entries.items;
  lawful : IsLawful l.fn.site.setup l.site.history;
  proper : All IsProperEntry (into_iter_items l.rest);
}

abbrev pub decreases-entries : goal.decreases-entries
decreases-entries l = into_iter_len l.rest
