use Rattle.std.proofs.Common.{[], sym, subst}
use Rattle.site_rules.specs.Asked.{IsSubject}
use Rattle.site_stores.specs.Holding.{Held}
use Rattle.site_deeds.proofs.OfDecision.{as_before, done_decided, room_left}
use Rattle.site_deeds.proofs.OfFound.{subject_found}
use Rattle.site_deeds.proofs.deciding.decide_other.Goals as goal

pub returns-clause-decided : goal.returns-clause-decided
returns-clause-decided c =
    let k = c.args.stores.now.content in
    let done = c.in_ok-done.done in
    let held : Held = record { content = k; room = c.do_deed.new.stores.room } in
    done_decided c.args.setup.now held c.args.station c.args.deed.now c.accepted.result done c.requires.other c.requires.allowed
    (subst (IsSubject k c.args.deed.now) (sym c.accepted.ensures.subject) (subject_found k c.args.deed.now c.args.found.now c.subject_in.result c.requires.found c.subject_in.ensures.unit c.subject_in.ensures.batch))
    (as_before c.args.setup.now c.do_deed.new.stores k c.args.station c.args.deed.now [] done c.in_ok-done.ensures.content c.in_ok-done.ensures.done) c.accepted.ensures.reply c.accepted.ensures.change c.accepted.ensures.draw

pub returns-clause-room : goal.returns-clause-room
returns-clause-room c = room_left c.do_deed.new.stores c.in_ok-done.done c.accepted.result _ _ c.accepted.ensures.change c.in_ok-done.ensures.done
