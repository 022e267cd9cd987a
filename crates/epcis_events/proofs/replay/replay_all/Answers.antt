use Rattle.std.proofs.Common.{rules, ◌≡◌, ◌+◌, ◌∙◌, drop, get_or, sym, ap}
use Rattle.epcis_events.specs.declared.event.Event.{Event}
use Rattle.epcis_events.specs.Replaying.{Replayed, fed, replay, replay_from}
use Rattle.epcis_events.proofs.Feeding.{feeds_on, feeds_end}
use Rattle.epcis_events.proofs.replay.replay_all.Goals as goal

pub loop-event-init : goal.loop-event-init
unfolding replay
loop-event-init c = ap (λ (r : Replayed). replay_from r c.args.events.now) c.new-replay.ensures

pub loop-event-preserved : goal.loop-event-preserved
loop-event-preserved c =
    let is : get_or c.args.events.now c.loop-event.event-index c.event-item.result ≡ c.event-item.result = search rules in
    let step = feeds_on c.loop-event.replay c.args.events.now c.loop-event.event-index c.event-item.result c.loop-event-test.true in
    ap (λ (r : Replayed). replay_from r (drop (c.loop-event.event-index + 1) c.args.events.now)) c.in_ok-feed.ensures
    ∙ ap (λ (e : Event). replay_from (fed c.loop-event.replay e) (drop (c.loop-event.event-index + 1) c.args.events.now)) (sym is) ∙ sym step ∙ c.loop-event.invariant

pub returns : goal.returns
returns c = sym (feeds_end c.loop-event.replay c.args.events.now c.loop-event.event-index c.loop-event-test.false) ∙ c.loop-event.invariant
