use Rattle.std.proofs.Common.{rules, ◌≡◌, ◌+◌, ◌∙◌, drop, get_or, Some, sym, ap}
use Rattle.std.specs.Prelude.{filter_map}
use Rattle.epcis_events.specs.Events.{event_of}
use Rattle.epcis_events.specs.Replaying.{Replayed, replay_from}
use Rattle.site_sim.proofs.Blocks.{feeds_on, feeds_end}
use Rattle.site_sim.proofs.replaying.feed_all.Goals as goal

pub loop-moved-preserved : goal.loop-moved-preserved
loop-moved-preserved c =
    let f = event_of c.args.setup.now in
    let ms = c.args.moves.now in
    let i = c.loop-moved.moved-index in
    let m = c.moved-item.result in
    let is : get_or ms i m ≡ m = search rules in
    let made : f (get_or ms i m) ≡ Some c.in_ok-event.event = ap f is ∙ c.in_ok-event.ensures in
    let step = feeds_on f c.loop-moved.replay ms i m c.in_ok-event.event c.loop-moved-test.true made in
    ap (λ (r : Replayed). replay_from r (filter_map f (drop (i + 1) ms))) c.in_ok-feed.ensures ∙ sym step ∙ c.loop-moved.invariant

pub returns : goal.returns
returns c = sym (feeds_end (event_of c.args.setup.now) c.loop-moved.replay c.args.moves.now c.loop-moved.moved-index c.loop-moved-test.false) ∙ c.loop-moved.invariant
