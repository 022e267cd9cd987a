use Rattle.std.proofs.Common.{◌≡◌, List, [], sym, refl, subst, true≢false}
use Rattle.std.specs.List.{IsDistinct}
use Rattle.std.proofs.lemmas.List.{nil_from_length}
use Rattle.deed_words.specs.Names.{same}
use Rattle.deed_words.specs.Setups.{gtins_of}
use Rattle.deed_words.specs.declared.setup.Product.{Product}
use Rattle.deed_words.proofs.Differing.{differ_on, differ_not}
use Rattle.deed_words.proofs.setup.gtins_differ.Goals as goal

pub returns-then-has_gtin : goal.returns-then-has_gtin
returns-then-has_gtin c = (
  λ never. absurd (true≢false (sym never)),
  differ_not (λ (x : Product). x.gtin) c.in-Some.first.now c.loop-first.left.now c.in-Some.later.now _ c.in-Some.ensures.cases.0 (sym c.if-has_gtin.ensures) c.loop-first.invariant,
)

pub loop-first-preserved : goal.loop-first-preserved
loop-first-preserved c = differ_on (λ (x : Product). x.gtin) c.in-Some.first.now c.loop-first.left.now c.in-Some.later.now _ c.in-Some.ensures.cases.0 (sym c.if-has_gtin.ensures) c.loop-first.invariant

pub returns : goal.returns
unfolding IsDistinct
returns c =
    let none_left : c.loop-first.left.now ≡ [] = nil_from_length c.loop-first.left.now c.in_default.ensures.cases in
    (λ always. c.loop-first.invariant.0 (subst (λ (xs : List Product). IsDistinct same (gtins_of xs)) (sym none_left) tt), λ all. refl)
