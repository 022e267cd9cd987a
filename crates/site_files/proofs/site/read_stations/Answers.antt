use Rattle.std.proofs.Common.{refl, ◌≡◌, ◌∙◌, ◌+◌, ◌<◌, ◌≤◌, ◌++◌, ◌∷◌, [], length, get_or, inr, arith, rules, Ok, Err, true, false}
use Rattle.std.specs.List.{IsDistinct}
use Rattle.std.proofs.lemmas.Result.{err_from_is_err_and}
use Rattle.std.proofs.lemmas.List.{length-append}
use Rattle.toml.specs.View.{view}
use Rattle.deed_words.specs.declared.setup.Station.{Station}
use Rattle.site_files.specs.Sites.{station_entry, has_name}
use Rattle.site_files.proofs.Entries.{one_more_differs, station_more, station_twice, station_fault, station_end}
use Rattle.site_files.proofs.site.read_stations.Goals as goal

pub loop-entry-init : goal.loop-entry-init
unfolding IsDistinct
loop-entry-init c = rw c.new-stations.ensures (record { due = refl; size = refl; differ = tt })

pub returns-in_err-station-clause-is : goal.returns-in_err-station-clause-is
returns-in_err-station-clause-is c =
    let h : c.loop-entry.entry-index < length c.args.entries.now = omega arith in
    let is : station_entry (view (get_or c.args.entries.now c.loop-entry.entry-index c.entry-item.result)) ≡ Err c.in_err-station.field-0.0 = rw (← c.entry-item.is) c.in_err-station.ensures in
    let p = err_from_is_err_and c.from_residual.result c.from_residual.ensures.1 in
    rw (p.1, p.2) (inr (c.loop-entry.invariant.due ∙ station_fault _ _ _ _ _ h is))

pub returns-then-has_name-clause-is : goal.returns-then-has_name-clause-is
returns-then-has_name-clause-is c =
    let h : c.loop-entry.entry-index < length c.args.entries.now = omega arith in
    let is : station_entry (view (get_or c.args.entries.now c.loop-entry.entry-index c.entry-item.result)) ≡ Ok c.in_ok-station.station = rw (← c.entry-item.is) (search rules) in
    let old : has_name c.in_ok-station.station.name c.loop-entry.stations ≡ true = search rules in
    inr (c.loop-entry.invariant.due ∙ station_twice _ _ _ _ _ h is old)

pub loop-entry-preserved : goal.loop-entry-preserved
loop-entry-preserved c =
    let h : c.loop-entry.entry-index < length c.args.entries.now = omega arith in
    let is : station_entry (view (get_or c.args.entries.now c.loop-entry.entry-index c.entry-item.result)) ≡ Ok c.in_ok-station.station = rw (← c.entry-item.is) (search rules) in
    let new : has_name c.in_ok-station.station.name c.loop-entry.stations ≡ false = search rules in
    let items : c.push.new.self ≡ c.loop-entry.stations ++ c.in_ok-station.station ∷ [] = search rules in
    let size = c.loop-entry.invariant.size in
    let one : length (c.loop-entry.stations ++ c.in_ok-station.station ∷ []) ≡ length c.loop-entry.stations + 1 = length-append c.loop-entry.stations (c.in_ok-station.station ∷ []) in
    record {
      due = rw items (c.loop-entry.invariant.due ∙ station_more _ _ _ _ _ h is new);
      size = rw (items, one) (omega (arith, size));
      differ = rw items (one_more_differs (λ (x : Station). x.name) c.loop-entry.stations c.in_ok-station.station c.loop-entry.invariant.differ new);
    }

pub returns-clause-is : goal.returns-clause-is
returns-clause-is c =
    let h : length c.args.entries.now ≤ c.loop-entry.entry-index = omega arith in
    c.loop-entry.invariant.due ∙ station_end _ _ _ h
