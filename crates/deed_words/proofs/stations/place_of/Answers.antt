use Rattle.std.proofs.Common.{ℕ, Bool, arith, sym, ◌∙◌, ap}
use Rattle.deed_words.specs.Names.{same}
use Rattle.deed_words.specs.Chain.{when}
use Rattle.deed_words.specs.declared.setup.Station.{Station}
use Rattle.deed_words.proofs.Each.{each_start, each_found, each_passed, each_done}
use Rattle.deed_words.proofs.stations.place_of.Goals as goal

pub loop-place-init : goal.loop-place-init
loop-place-init c = each_start c.args.stations.now (λ (k : ℕ) (station : Station). when (same station.name c.args.name.now) k)

pub returns-then-is_named-clause-is : goal.returns-then-is_named-clause-is
unfolding when
returns-then-is_named-clause-is c =
    let k = c.loop-place.place in
    each_found c.args.stations.now (λ (k : ℕ) (station : Station). when (same station.name c.args.name.now) k) k c.index-stations-place.result k c.loop-place-test.true c.index-stations-place.is
    (sym (ap (λ (b : Bool). when b k) (sym c.is_named.ensures ∙ c.if-is_named.true))) c.loop-place.invariant

pub loop-place-preserved : goal.loop-place-preserved
unfolding when
loop-place-preserved c =
    let k = c.loop-place.place in
    each_passed c.args.stations.now (λ (k : ℕ) (station : Station). when (same station.name c.args.name.now) k) k c.index-stations-place.result c.loop-place-test.true c.index-stations-place.is
    (sym (ap (λ (b : Bool). when b k) (sym c.is_named.ensures ∙ c.if-is_named.false))) c.loop-place.invariant

pub returns-clause-is : goal.returns-clause-is
returns-clause-is c = each_done c.args.stations.now (λ (k : ℕ) (station : Station). when (same station.name c.args.name.now) k) c.loop-place.place (omega arith) c.loop-place.invariant
