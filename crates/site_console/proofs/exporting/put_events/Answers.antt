use Rattle.std.proofs.Common.{◌≡◌, ◌≤◌, ◌+◌, ◌-◌, ◌++◌, ℕ, List, Option, Some, None, Ok, Err, false, length, drop, take, nat_lt, ap, refl, subst, ◌∙◌, arith}
use Rattle.std.proofs.lemmas.Result.{err_from_is_err_and}
use Rattle.serde_json.specs.Written.{comma_if, compact_text}
use Rattle.deed_words.specs.Happenings.{listed}
use Rattle.epcis_events.specs.Documents.{event_data, events_text}
use Rattle.epcis_events.specs.declared.event.Event.{Event}
use Rattle.site_console.specs.Looks.{events_seen}
use Rattle.site_console.specs.declared.fault.Fault.TheVariants.{Memory}
use Rattle.site_console.proofs.Causing.{write_carried}
use Rattle.site_console.proofs.Exported.{Laws, events_few, first_texts, next_text, no_text}
use Rattle.site_console.proofs.Putting.{Part, none_put}
use Rattle.site_console.proofs.Ranges.{none_there, range_is}
use Rattle.site_console.proofs.Saying.{no_fault, part_more, part_stopped, part_wants, part_whole, said_as, unsaid}
use Rattle.site_console.proofs.exporting.put_events.Goals as goal

pub returns-in_default-clause-said : goal.returns-in_default-clause-said
returns-in_default-clause-said g c = unsaid (Unit {0}) _ _

pub returns-in_default-clause-write : goal.returns-in_default-clause-write
returns-in_default-clause-write g c = no_fault _

pub events-init : goal.events-init
events-init g c =
    let all = events_seen c.args.site.now.setup c.args.site.now.history (Some c.args.batch) in
    let first = c.first_place-first.result in
    record {
      part = subst (Part _ _ _) (first_texts first (take (c.past_place-past.result - first) (drop first all))) (none_put _ _);
      faults = refl;
      low = omega arith;
    }

-- what is to be put is that of the numbers
pub returns-in_default-event_at-clause-said : goal.returns-in_default-event_at-clause-said
returns-in_default-event_at-clause-said g c =
    let site = c.args.site.now in
    let all = events_seen site.setup site.history (Some c.args.batch) in
    let laws : Laws = record { each = c.moves_have_events.ensures.each; batch = c.moves_have_events.ensures.batch; part = c.moves_have_events.ensures.part; count = c.moves_have_events.ensures.count } in
    let few : length all ≤ c.in-Ok.entries = omega (arith, c.in-Ok.ensures, events_few laws site.setup site.history (Some c.args.batch)) in
    said_as (Unit {0}) _ _ _ _ (Err Memory) (ap (λ (es : List Event). events_text false es) (range_is all c.args.from c.args.count c.in-Ok.entries c.first_place-first.result c.past_place-past.result few c.first_place-first.ensures c.past_place-past.ensures))
    (part_wants (Unit {0}) _ _ _ _ c.events.invariant.part)

pub returns-in_default-event_at-clause-write : goal.returns-in_default-event_at-clause-write
returns-in_default-event_at-clause-write g c = record { later = omega (arith, c.events.invariant.faults); failed = tt; kept = c.events.invariant.faults }

pub returns-clause-said : goal.returns-clause-said
unfolding events_text
returns-clause-said g c =
    let site = c.args.site.now in
    let all = events_seen site.setup site.history (Some c.args.batch) in
    let place = c.events.place in
    let laws : Laws = record { each = c.moves_have_events.ensures.each; batch = c.moves_have_events.ensures.batch; part = c.moves_have_events.ensures.part; count = c.moves_have_events.ensures.count } in
    let few : length all ≤ c.in-Ok.entries = omega (arith, c.in-Ok.ensures, events_few laws site.setup site.history (Some c.args.batch)) in
    let none : c.past_place-past.result - place ≡ 0 = omega (arith, c.events-test.false) in
    said_as (Unit {0}) _ _ _ _ (Ok tt) (ap (λ (es : List Event). events_text false es) (range_is all c.args.from c.args.count c.in-Ok.entries c.first_place-first.result c.past_place-past.result few c.first_place-first.ensures c.past_place-past.ensures))
    (part_whole _ _ _ _ c.events.invariant.part (ap (λ (n : ℕ). events_text (nat_lt c.first_place-first.result place) (take n (drop place all))) none))

pub returns-clause-write : goal.returns-clause-write
returns-clause-write g c = record { later = omega (arith, c.events.invariant.faults); failed = tt; kept = c.events.invariant.faults }

-- none is left
pub returns-in_default-event-clause-said : goal.returns-in_default-event-clause-said
unfolding listed
returns-in_default-event-clause-said g c =
    let site = c.args.site.now in
    let all = events_seen site.setup site.history (Some c.args.batch) in
    let place = c.events.place in
    let laws : Laws = record { each = c.moves_have_events.ensures.each; batch = c.moves_have_events.ensures.batch; part = c.moves_have_events.ensures.part; count = c.moves_have_events.ensures.count } in
    let few : length all ≤ c.in-Ok.entries = omega (arith, c.in-Ok.ensures, events_few laws site.setup site.history (Some c.args.batch)) in
    let read : listed None ≡ take 1 (drop ((place + 1) - 1) all) = subst (λ (o : Option Event). listed o ≡ take 1 (drop ((place + 1) - 1) all)) c.in_default-event.is c.in-Ok-event_at.ensures.is in
    said_as (Unit {0}) _ _ _ _ (Ok tt) (ap (λ (es : List Event). events_text false es) (range_is all c.args.from c.args.count c.in-Ok.entries c.first_place-first.result c.past_place-past.result few c.first_place-first.ensures c.past_place-past.ensures))
    (part_whole _ _ _ _ c.events.invariant.part (no_text all c.first_place-first.result place c.past_place-past.result (none_there all place read)))

pub returns-in_default-event-clause-write : goal.returns-in_default-event-clause-write
returns-in_default-event-clause-write g c = record { later = omega (arith, c.events.invariant.faults); failed = tt; kept = c.events.invariant.faults }

-- one more was put, or not all of it
pub events-preserved : goal.events-preserved
unfolding listed
events-preserved g c =
    let site = c.args.site.now in
    let all = events_seen site.setup site.history (Some c.args.batch) in
    let place = c.events.place in
    let first = c.first_place-first.result in
    let past = c.past_place-past.result in
    let event = c.in-Some.event in
    let one : listed (Some event) ≡ take 1 (drop ((place + 1) - 1) all) = subst (λ (o : Option Event). listed o ≡ take 1 (drop ((place + 1) - 1) all)) c.in-Some.is c.in-Ok-event_at.ensures.is in
    record {
      part = part_more _ _ _ _ _ (comma_if (nat_lt first place) ++ compact_text (event_data event)) (events_text (nat_lt first (place + 1)) (take (past - (place + 1)) (drop (place + 1) all))) c.events.invariant.part (next_text all event first place past one c.events-test.true c.events.invariant.low) c.in_ok-put_event.ensures.said;
      faults = c.in_ok-put_event.ensures.write.kept ∙ c.events.invariant.faults;
      low = omega (arith, c.events.invariant.low);
    }

pub returns-in_err-put_event-clause-said : goal.returns-in_err-put_event-clause-said
unfolding listed
returns-in_err-put_event-clause-said g c =
    let site = c.args.site.now in
    let all = events_seen site.setup site.history (Some c.args.batch) in
    let place = c.events.place in
    let first = c.first_place-first.result in
    let past = c.past_place-past.result in
    let event = c.in-Some.event in
    let laws : Laws = record { each = c.moves_have_events.ensures.each; batch = c.moves_have_events.ensures.batch; part = c.moves_have_events.ensures.part; count = c.moves_have_events.ensures.count } in
    let few : length all ≤ c.in-Ok.entries = omega (arith, c.in-Ok.ensures, events_few laws site.setup site.history (Some c.args.batch)) in
    let one : listed (Some event) ≡ take 1 (drop ((place + 1) - 1) all) = subst (λ (o : Option Event). listed o ≡ take 1 (drop ((place + 1) - 1) all)) c.in-Some.is c.in-Ok-event_at.ensures.is in
    let p = err_from_is_err_and c.from_residual.result c.from_residual.ensures.1 in
    rw (p.1, p.2) (said_as (Unit {0}) _ _ _ _ (Err c.in_err-put_event.field-0.0) (ap (λ (es : List Event). events_text false es) (range_is all c.args.from c.args.count c.in-Ok.entries first past few c.first_place-first.ensures c.past_place-past.ensures))
    (part_stopped (Unit {0}) (Unit {0}) _ _ _ _ _ (comma_if (nat_lt first place) ++ compact_text (event_data event)) (events_text (nat_lt first (place + 1)) (take (past - (place + 1)) (drop (place + 1) all))) c.in_err-put_event.field-0.0 c.events.invariant.part (next_text all event first place past one c.events-test.true c.events.invariant.low) c.in_err-put_event.ensures.said))

pub returns-in_err-put_event-clause-write : goal.returns-in_err-put_event-clause-write
returns-in_err-put_event-clause-write g c =
    let p = err_from_is_err_and c.from_residual.result c.from_residual.ensures.1 in
    rw (p.1, p.2) (write_carried (Unit {0}) (Unit {0}) c.in_err-put_event.field-0.0 _ _ _ c.events.invariant.faults c.in_err-put_event.ensures.write)
