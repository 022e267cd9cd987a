use Rattle.std.proofs.Common.{◌≡◌, ◌∙◌, All, Some, sym, ap, subst}
use Rattle.std.specs.List.{filter_map}
use Rattle.deed_words.specs.Setups.{Setup}
use Rattle.epcis_events.specs.Documents.{IsProperEvent}
use Rattle.epcis_events.specs.Events.{event_of}
use Rattle.site_core.specs.Seen.{moves_seen}
use Rattle.site_answers.specs.Batches.{events_numbered}
use Rattle.site_answers.proofs.Numbering.{HasEvent, Laws, events_read, have_events, in_turn, proper_read}
use Rattle.site_answers.proofs.events.events_between.Goals as goal

pub events_in-requires : goal.events_in-requires
events_in-requires c =
    let site = c.args.site.now in
    let laws : Laws = record { batch = c.moves_have_events.ensures.batch; part = c.moves_have_events.ensures.part } in
    subst (All HasEvent) (sym c.as_slice.ensures) (have_events laws site.setup site.history c.args.batch c.args.from c.args.count c.in_ok-moves.moves c.in_ok-moves.ensures)

pub returns-clause-are : goal.returns-clause-are
returns-clause-are c =
    let site = c.args.site.now in
    let laws : Laws = record { batch = c.moves_have_events.ensures.batch; part = c.moves_have_events.ensures.part } in
    let read =
    ap (λ (s : Setup). filter_map (event_of s) c.as_slice.result.now) c.setup.ensures
    ∙ ap (filter_map (event_of site.setup)) c.as_slice.ensures
    ∙ events_read laws site.setup site.history c.args.batch c.args.from c.args.count c.in_ok-moves.moves c.in_ok-moves.ensures in
    in_turn c.events_in.result _ _ (λ events is. is ∙ read) c.events_in.ensures

pub returns-clause-proper : goal.returns-clause-proper
returns-clause-proper c =
    let site = c.args.site.now in
    let kept = c.tell_kept.ensures in
    in_turn c.events_in.result (λ events. events.items ≡ events_numbered c.args.from c.args.count (filter_map (event_of site.setup) (moves_seen site.setup site.history (Some c.args.batch)))) (λ events. All IsProperEvent events.items)
    (λ events is. proper_read c.events_are_proper.ensures.batch site.setup site.history c.args.batch c.args.from c.args.count events.items kept.setup kept.lawful kept.proper is) (returns-clause-are c)
