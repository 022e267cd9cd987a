use Rattle.std.proofs.Common.{◌≤◌, Option, sym, ap, subst}
use Rattle.std.specs.Prelude.{slice_index}
use Rattle.deed_words.specs.declared.entry.Entry.{Entry}
use Rattle.batch_book.specs.Content.{Content}
use Rattle.site_rules.specs.Asked.{IsSubject}
use Rattle.move_list.specs.declared.moved.Moved.{Moved}
use Rattle.move_list.specs.Held.{HasRoom}
use Rattle.site_core.proofs.Coming.{IsPlanOf, IsMoved, moved_as, few_as, next_from}
use Rattle.site_core.proofs.Roomy.{room_kept, room_for_one, fits_still, fits_plan, roomier}
use Rattle.site_core.proofs.site.Site.adopt.Goals as goal

pub returns-in-Err-NotDrawn-clause-fault : goal.returns-in-Err-NotDrawn-clause-fault
returns-in-Err-NotDrawn-clause-fault c = (c.in_default.ensures.none, c.in-Err-NotDrawn.ensures.fault c.in-Err-NotDrawn.field-0-is)

pub returns-in-Err-NotDrawn-clause-kept : goal.returns-in-Err-NotDrawn-clause-kept
returns-in-Err-NotDrawn-clause-kept c = room_kept _ _ c.decide_known.ensures.kept

pub returns-in-Err-Memory-clause-kept : goal.returns-in-Err-Memory-clause-kept
returns-in-Err-Memory-clause-kept c = room_kept _ _ c.decide_known.ensures.kept

pub returns-in_default-ready-clause-kept : goal.returns-in_default-ready-clause-kept
returns-in_default-ready-clause-kept c = room_kept _ _ (roomier _ _ _ c.decide_known.ensures.kept c.ready.ensures.kept)

pub kept_move-requires : goal.kept_move-requires
kept_move-requires c = record { subject = subst (λ (k : Content). IsSubject k c.args.entry.deed c.in-Ok.decided.subject) (sym c.decide_known.ensures.same.2) c.in-Ok.ensures.known.subject_is }

pub planned-requires : goal.planned-requires
planned-requires c = record { some = c.in-Ok.ensures.known.some }

pub returns-clause-next : goal.returns-clause-next
returns-clause-next c =
    let plan : IsPlanOf c.in-Ok.decided c.planned.result = record {
      reply = c.planned.ensures.reply;
      change = c.planned.ensures.change;
      serials = c.planned.ensures.serials;
      drawn = c.planned.ensures.drawn;
      may = c.planned.ensures.may;
      some = c.planned.ensures.some;
    } in
    next_from c.args.self.now.setup c.args.self.now.history c.args.self.now.content c.args.entry c.in-Ok.decided c.planned.result c.decide_known.ensures.world c.requires.proper c.in_default.ensures.none c.in-Ok.ensures.known c.planned.ensures.entry plan
    (subst (λ (o : Option Moved). IsMoved c.args.self.now.setup c.args.self.now.history c.args.entry.deed c.in-Ok.decided.reply o) (sym c.planned.ensures.moved)
    (moved_as c.args.self.now.setup c.decide_known.new.self.setup c.args.self.now.history c.decide_known.new.self.history c.args.entry.deed c.in-Ok.decided.reply c.in-Ok-kept_move.moved c.decide_known.ensures.same.0 c.decide_known.ensures.same.1 c.in-Ok-kept_move.ensures.moved))
    (few_as c.args.self.now.history c.decide_known.new.self.history c.decide_known.ensures.same.1 c.in-Ok-kept_move.ensures.few)

pub returns-clause-room : goal.returns-clause-room
returns-clause-room c =
    room_for_one c.ready.new.self c.planned.result c.in-Ok-ready.ensures.entries (subst (λ k. 1 ≤ slice_index c.ready.new.self.room.numbers k) (sym (ap (λ (x : Entry). x.station) c.planned.ensures.entry)) c.in-Ok-ready.ensures.numbers)
    (fits_plan c.ready.new.self.room c.in-Ok.decided c.planned.result c.planned.ensures.change c.planned.ensures.serials c.planned.ensures.known (fits_still _ _ c.in-Ok.decided.change c.in-Ok.decided.draw c.ready.ensures.kept c.in-Ok.ensures.room))
    (subst (λ (o : Option Moved). HasRoom c.ready.new.self.room.moves o) (sym c.planned.ensures.moved) c.in-Ok-ready.ensures.moves)

pub returns-clause-kept : goal.returns-clause-kept
returns-clause-kept c = room_kept _ _ (roomier _ _ _ c.decide_known.ensures.kept c.ready.ensures.kept)

pub returns-in_default-kept_move-clause-kept : goal.returns-in_default-kept_move-clause-kept
returns-in_default-kept_move-clause-kept c = room_kept _ _ c.decide_known.ensures.kept
