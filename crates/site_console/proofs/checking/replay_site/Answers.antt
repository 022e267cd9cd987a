use Rattle.std.proofs.Common.{◌≡◌, ◌≤◌, ◌+◌, ◌-◌, ◌∷◌, [], List, None, Some, Option, length, drop, take, ap, sym, subst, ◌∙◌, arith}
use Rattle.std.proofs.lemmas.List.{drop_all}
use Rattle.deed_words.specs.Happenings.{listed}
use Rattle.epcis_events.specs.Events.{events}
use Rattle.epcis_events.specs.Replaying.{Replayed, replay, replay_from}
use Rattle.epcis_events.specs.declared.event.Event.{Event}
use Rattle.site_console.specs.Looks.{events_seen}
use Rattle.site_console.proofs.Exported.{Laws, events_few, feeds_no_more, feeds_one, seen_all}
use Rattle.site_console.proofs.Ranges.{is_there, none_left, none_there}
use Rattle.site_console.proofs.checking.replay_site.Goals as goal

pub events-init : goal.events-init
unfolding replay
events-init c =
    let all = events c.args.site.now.setup c.args.site.now.history in
    record { replayed = ap (λ (r : Replayed). replay_from r all) c.new-replay.ensures; within = omega arith }

pub events-preserved : goal.events-preserved
unfolding listed
events-preserved c =
    let site = c.args.site.now in
    let all = events site.setup site.history in
    let event = c.in-Some.event in
    let place = c.events.place in
    let read : listed (Some event) ≡ take 1 (drop ((place + 1) - 1) (events_seen site.setup site.history None)) = subst (λ (o : Option Event). listed o ≡ take 1 (drop ((place + 1) - 1) (events_seen site.setup site.history None))) c.in-Some.is c.in_ok-event.ensures.is in
    let one : event ∷ [] ≡ take 1 (drop ((place + 1) - 1) all) = subst (λ (es : List Event). event ∷ [] ≡ take 1 (drop ((place + 1) - 1) es)) (seen_all site.setup site.history) read in
    record {
      replayed = ap (λ (r : Replayed). replay_from r (drop (place + 1) all)) c.in_ok-feed.ensures ∙ sym (feeds_one c.events.replay all event place one) ∙ c.events.invariant.replayed;
      within = let there = is_there all event place one in omega (arith, there);
    }

pub returns-in_default-clause-replayed : goal.returns-in_default-clause-replayed
unfolding listed
returns-in_default-clause-replayed c =
    let site = c.args.site.now in
    let all = events site.setup site.history in
    let place = c.events.place in
    let read : listed None ≡ take 1 (drop ((place + 1) - 1) (events_seen site.setup site.history None)) = subst (λ (o : Option Event). listed o ≡ take 1 (drop ((place + 1) - 1) (events_seen site.setup site.history None))) c.in_default.is c.in_ok-event.ensures.is in
    let none = none_there all place (subst (λ (es : List Event). [] ≡ take 1 (drop ((place + 1) - 1) es)) (seen_all site.setup site.history) read) in
    sym (feeds_no_more c.events.replay all place none) ∙ c.events.invariant.replayed

pub returns-in_default-clause-count : goal.returns-in_default-clause-count
unfolding listed
returns-in_default-clause-count c =
    let site = c.args.site.now in
    let all = events site.setup site.history in
    let place = c.events.place in
    let read : listed None ≡ take 1 (drop ((place + 1) - 1) (events_seen site.setup site.history None)) = subst (λ (o : Option Event). listed o ≡ take 1 (drop ((place + 1) - 1) (events_seen site.setup site.history None))) c.in_default.is c.in_ok-event.ensures.is in
    let left = none_left all place (none_there all place (subst (λ (es : List Event). [] ≡ take 1 (drop ((place + 1) - 1) es)) (seen_all site.setup site.history) read)) in
    omega (arith, left, c.events.invariant.within)

pub returns-clause-replayed : goal.returns-clause-replayed
returns-clause-replayed c =
    let site = c.args.site.now in
    let all = events site.setup site.history in
    let place = c.events.place in
    let laws : Laws = record { each = c.moves_have_events.ensures.each; batch = c.moves_have_events.ensures.batch; part = c.moves_have_events.ensures.part; count = c.moves_have_events.ensures.count } in
    let few : length all ≤ length site.history = subst (λ (es : List Event). length es ≤ length site.history) (seen_all site.setup site.history) (events_few laws site.setup site.history None) in
    let none = drop_all place all (omega (arith, few, c.in_ok-entries.ensures, c.events-test.false)) in
    sym (feeds_no_more c.events.replay all place none) ∙ c.events.invariant.replayed

pub returns-clause-count : goal.returns-clause-count
returns-clause-count c =
    let site = c.args.site.now in
    let all = events site.setup site.history in
    let laws : Laws = record { each = c.moves_have_events.ensures.each; batch = c.moves_have_events.ensures.batch; part = c.moves_have_events.ensures.part; count = c.moves_have_events.ensures.count } in
    let few : length all ≤ length site.history = subst (λ (es : List Event). length es ≤ length site.history) (seen_all site.setup site.history) (events_few laws site.setup site.history None) in
    omega (arith, few, c.in_ok-entries.ensures, c.events-test.false, c.events.invariant.within)
