use Rattle.std.proofs.Common.{◌≡◌, ℕ, drop}
use Rattle.deed_words.specs.Names.{same}
use Rattle.deed_words.specs.Chain.{each, each_from, first, when}
use Rattle.deed_words.specs.declared.setup.Station.{Station}
use Rattle.deed_words.proofs.stations.place_of.Given as goal

abbrev pub invariant-loop-place : goal.invariant-loop-place
invariant-loop-place l =
    let test = λ (k : ℕ) (station : Station). when (same station.name l.name) k in
    each l.stations test ≡ first (each_from l.place test (drop l.place l.stations))
