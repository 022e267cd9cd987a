use Rattle.std.proofs.Common.{◌≡◌, drop, [], length, true}
use Rattle.std.specs.List.{list_all, IsDistinct}
use Rattle.toml.specs.View.{items_view}
use Rattle.deed_words.specs.Names.{same}
use Rattle.deed_words.specs.Setups.{is_product, gtins_of}
use Rattle.site_files.specs.Sites.{products_after}
use Rattle.site_files.proofs.site.read_products.Given as goal

abbrev pub invariant-loop-entry : goal.invariant-loop-entry
invariant-loop-entry l = record {
  due : products_after [] (items_view l.entries) ≡ products_after l.products (items_view (drop l.entry-index l.entries));
  size : length l.products ≡ l.entry-index;
  proper : list_all is_product l.products ≡ true;
  differ : IsDistinct same (gtins_of l.products);
}
