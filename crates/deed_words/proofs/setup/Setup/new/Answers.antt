use Rattle.std.proofs.Common.{◌≡◌, ◌≤◌, true, List, length, sym, refl, subst, true≢false, arith}
use Rattle.std.specs.List.{list_all, IsDistinct}
use Rattle.deed_words.specs.Names.{same}
use Rattle.deed_words.specs.Setups.{is_product, gtins_of, names_of, reference_bound}
use Rattle.deed_words.specs.declared.setup.Product.{Product}
use Rattle.deed_words.specs.declared.setup.Station.{Station}
use Rattle.deed_words.proofs.setup.Setup.new.Goals as goal

pub invariant_of-result : goal.invariant_of-result
unfolding reference_bound
invariant_of-result c =
    let made =
    subst (λ (xs : List Product). (1 ≤ length xs) × (length xs ≤ 256) × (list_all is_product xs ≡ true) × IsDistinct same (gtins_of xs)) c.as_slice.ensures (c.if-not-are_products.ensures.0 refl) in
    let named = subst (λ (xs : List Station). (1 ≤ length xs) × (length xs ≤ 64) × IsDistinct same (names_of xs)) c.as_slice-else-not-are_products.ensures (c.if-not-are_stations.ensures.0 refl) in
    record {
      gln = sym c.if-not-is_of_prefix.ensures;
      prefix = c.reference_end.ensures.length;
      extension = c.if-extension-gt9.false;
      reference = omega (arith, c.if-reference-reference_end.false, c.reference_end.ensures.is);
      offset = sym c.if-not-is_time_offset.ensures;
      product_count = (made.0, made.1);
      products = made.2;
      gtins_differ = made.3;
      station_count = (named.0, named.1);
      names_differ = named.2;
    }

pub returns-then-reference-reference_end-clause-exactly : goal.returns-then-reference-reference_end-clause-exactly
unfolding reference_bound
returns-then-reference-reference_end-clause-exactly c = (
  λ never. absurd (true≢false (sym never)),
  λ proper. let below = proper.reference in absurd (omega (arith, below, c.if-reference-reference_end.true, c.reference_end.ensures.is)),
)

pub returns-clause-exactly : goal.returns-clause-exactly
returns-clause-exactly c = (λ made. invariant_of-result c, λ proper. refl)
