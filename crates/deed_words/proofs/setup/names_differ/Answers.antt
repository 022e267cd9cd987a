use Rattle.std.proofs.Common.{◌≡◌, List, [], sym, refl, subst, true≢false}
use Rattle.std.specs.List.{IsDistinct}
use Rattle.std.proofs.lemmas.List.{nil_from_length}
use Rattle.deed_words.specs.Names.{same}
use Rattle.deed_words.specs.Setups.{names_of}
use Rattle.deed_words.specs.declared.setup.Station.{Station}
use Rattle.deed_words.proofs.Differing.{differ_on, differ_not}
use Rattle.deed_words.proofs.setup.names_differ.Goals as goal

pub returns-then-has_name : goal.returns-then-has_name
returns-then-has_name c = (
  λ never. absurd (true≢false (sym never)),
  differ_not (λ (x : Station). x.name) c.in-Some.first.now c.loop-first.left.now c.in-Some.later.now _ c.in-Some.ensures.cases.0 (sym c.if-has_name.ensures) c.loop-first.invariant,
)

pub loop-first-preserved : goal.loop-first-preserved
loop-first-preserved c = differ_on (λ (x : Station). x.name) c.in-Some.first.now c.loop-first.left.now c.in-Some.later.now _ c.in-Some.ensures.cases.0 (sym c.if-has_name.ensures) c.loop-first.invariant

pub returns : goal.returns
unfolding IsDistinct
returns c =
    let none_left : c.loop-first.left.now ≡ [] = nil_from_length c.loop-first.left.now c.in_default.ensures.cases in
    (λ always. c.loop-first.invariant.0 (subst (λ (xs : List Station). IsDistinct same (names_of xs)) (sym none_left) tt), λ all. refl)
