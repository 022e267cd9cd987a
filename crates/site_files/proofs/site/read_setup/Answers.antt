use Rattle.std.proofs.Common.{◌≡◌, ◌≤◌, ◌<◌, length, arith}
use Rattle.std.proofs.lemmas.Bool.{false≢true}
use Rattle.deed_words.specs.Setups.{reference_bound}
use Rattle.site_files.proofs.site.read_setup.Goals as goal

pub unreachable-requires : goal.unreachable-requires
unfolding reference_bound
unreachable-requires c =
    let made = c.in_ok-products.ensures.size in
    let entries = c.in_ok-entries_at.ensures.size in
    let listed = c.in_ok-stations.ensures.size in
    let names = c.in_ok-entries_at-2.ensures.size in
    let extension = c.in_ok-extension.ensures.within in
    let reference = c.in_ok-reference.ensures.within in
    let bound = c.reference_end.ensures.is in
    false≢true (c.in-None.ensures.exactly.1 (record {
      gln = c.in_ok-gln.ensures.begins;
      prefix = c.reference_end.ensures.length;
      extension = omega (arith, extension.1);
      reference = omega (arith, reference.1, bound);
      offset = c.in_ok-offset.ensures.proper;
      product_count = (omega (arith, made, entries.0), omega (arith, made, entries.1));
      products = c.in_ok-products.ensures.proper;
      gtins_differ = c.in_ok-products.ensures.differ;
      station_count = (omega (arith, listed, names.0), omega (arith, listed, names.1));
      names_differ = c.in_ok-stations.ensures.differ;
    }))
