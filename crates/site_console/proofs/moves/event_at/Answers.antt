use Rattle.std.proofs.Common.{◌<◌, length, ap, sym, ◌∙◌, arith}
use Rattle.deed_words.specs.Happenings.{listed}
use Rattle.deed_words.specs.Setups.{Setup}
use Rattle.epcis_events.specs.Events.{event_of}
use Rattle.site_console.proofs.Exported.{Laws, AreProper, event_none, event_proper, event_there, move_has}
use Rattle.site_console.proofs.moves.event_at.Goals as goal

pub event_of-requires : goal.event_of-requires
event_of-requires c =
    let site = c.args.site.now in
    let laws : Laws = record { each = c.moves_have_events.ensures.each; batch = c.moves_have_events.ensures.batch; part = c.moves_have_events.ensures.part; count = c.moves_have_events.ensures.count } in
    let some : 0 < length c.in_ok-moves.moves = omega (arith, c.len.ensures, c.if-len-eq0.false) in
    move_has laws site.setup site.history c.args.batch c.args.number c.in_ok-moves.moves c.get.result.now c.requires.number c.in_ok-moves.ensures some c.get.ensures

pub returns-then-len-eq0-clause-is : goal.returns-then-len-eq0-clause-is
unfolding listed
returns-then-len-eq0-clause-is c =
    let site = c.args.site.now in
    let laws : Laws = record { each = c.moves_have_events.ensures.each; batch = c.moves_have_events.ensures.batch; part = c.moves_have_events.ensures.part; count = c.moves_have_events.ensures.count } in
    event_none laws site.setup site.history c.args.batch c.args.number c.in_ok-moves.moves c.requires.number c.in_ok-moves.ensures (sym c.len.ensures ∙ c.if-len-eq0.true)

pub returns-clause-is : goal.returns-clause-is
unfolding listed
returns-clause-is c =
    let site = c.args.site.now in
    let laws : Laws = record { each = c.moves_have_events.ensures.each; batch = c.moves_have_events.ensures.batch; part = c.moves_have_events.ensures.part; count = c.moves_have_events.ensures.count } in
    let some : 0 < length c.in_ok-moves.moves = omega (arith, c.len.ensures, c.if-len-eq0.false) in
    event_there laws site.setup site.history c.args.batch c.args.number c.in_ok-moves.moves c.get.result.now c.in_ok-event.event c.requires.number c.in_ok-moves.ensures some c.get.ensures (ap (λ (s : Setup). event_of s c.get.result.now) (sym c.setup.ensures) ∙ c.in_ok-event.ensures)

pub returns-clause-proper : goal.returns-clause-proper
unfolding listed
returns-clause-proper c =
    let site = c.args.site.now in
    let proper : AreProper = record { all = c.events_are_proper.ensures.all; batch = c.events_are_proper.ensures.batch } in
    let kept = c.tell_kept.ensures in
    event_proper proper site.setup site.history c.args.batch c.args.number c.in_ok-event.event kept.setup kept.lawful kept.proper (returns-clause-is c)
