use Rattle.std.proofs.Common.{rules, ◌≡◌, ◌<◌, ◌∙◌, length, get_or}
use Rattle.epcis_events.specs.Events.{event_of}
use Rattle.site_answers.proofs.Numbering.{one_given}
use Rattle.site_answers.proofs.events.events_in.Goals as goal

pub loop-moved-preserved : goal.loop-moved-preserved
loop-moved-preserved c =
    let few : c.loop-moved.moved-index < length c.args.moves.now = search rules in
    let here : c.moved-item.result ≡ get_or c.args.moves.now c.loop-moved.moved-index c.moved-item.result = search rules in
    c.in_ok-push.ensures.items
    ∙ one_given (event_of c.args.setup.now) c.args.moves.now c.loop-moved.moved-index c.moved-item.result c.in_ok-event_of.field-0 c.loop-moved.events.items few here c.in_ok-event_of.ensures c.loop-moved.invariant
