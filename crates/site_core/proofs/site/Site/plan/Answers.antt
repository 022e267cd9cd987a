use Rattle.std.proofs.Common.{◌≤◌, Option, sym, ap, ◌∙◌, subst}
use Rattle.std.specs.Prelude.{slice_index}
use Rattle.deed_words.specs.declared.entry.Entry.{Entry}
use Rattle.batch_book.specs.Content.{Content}
use Rattle.site_rules.specs.Asked.{IsSubject}
use Rattle.move_list.specs.declared.moved.Moved.{Moved}
use Rattle.move_list.specs.Held.{HasRoom}
use Rattle.site_core.proofs.Coming.{IsPlanOf, IsMoved, moved_as, few_as, makes, no_plan, unplanned}
use Rattle.site_core.proofs.Roomy.{room_kept, room_for_one, fits_still, fits_plan, roomier}
use Rattle.site_core.proofs.site.Site.plan.Goals as goal

pub returns-in-Err-clause-plan : goal.returns-in-Err-clause-plan
returns-in-Err-clause-plan g c =
    let e = c.in-Err.ensures.decides in
    (e.0, e.1, no_plan c.args.self.now.setup c.args.self.now.history c.args.self.now.content c.args.worker c.args.ask c.args.stamp e.0 c.in-Err.fault c.decide.ensures.world e.2)

pub returns-in-Err-clause-kept : goal.returns-in-Err-clause-kept
returns-in-Err-clause-kept g c = room_kept _ _ c.decide.ensures.kept

pub returns-in_default-clause-plan : goal.returns-in_default-clause-plan
returns-in_default-clause-plan g c =
    let e = c.in-Ok.ensures.decides in
    (e.0, e.1, unplanned c.args.self.now.setup c.args.self.now.history c.args.self.now.content c.args.worker c.args.ask c.args.stamp e.0 c.in-Ok.decided c.decide.ensures.world e.2)

pub returns-in_default-clause-kept : goal.returns-in_default-clause-kept
returns-in_default-clause-kept g c = room_kept _ _ c.decide.ensures.kept

pub returns-in_default-ready-clause-plan : goal.returns-in_default-ready-clause-plan
returns-in_default-ready-clause-plan g c =
    let e = c.in-Ok.ensures.decides in
    (e.0, e.1, unplanned c.args.self.now.setup c.args.self.now.history c.args.self.now.content c.args.worker c.args.ask c.args.stamp e.0 c.in-Ok.decided c.decide.ensures.world e.2)

pub returns-in_default-ready-clause-kept : goal.returns-in_default-ready-clause-kept
returns-in_default-ready-clause-kept g c = room_kept _ _ (roomier _ _ _ c.decide.ensures.kept c.ready.ensures.kept)

pub kept_move-requires : goal.kept_move-requires
kept_move-requires g c = record { subject = subst (λ (k : Content). IsSubject k c.args.ask.deed c.in-Ok.decided.subject) (sym c.decide.ensures.same.2) c.in-Ok.ensures.decides.2.0.subject_is }

pub planned-requires : goal.planned-requires
planned-requires g c = record { some = c.in-Ok.ensures.decides.2.0.some }

pub returns-clause-plan : goal.returns-clause-plan
returns-clause-plan g c =
    let e = c.in-Ok.ensures.decides in
    let plan : IsPlanOf c.in-Ok.decided c.planned.result = record {
      reply = c.planned.ensures.reply;
      change = c.planned.ensures.change;
      serials = c.planned.ensures.serials;
      drawn = c.planned.ensures.drawn;
      may = c.planned.ensures.may;
      some = c.planned.ensures.some;
    } in (
      e.0,
      e.1,
      makes c.args.self.now.setup c.args.self.now.history c.args.self.now.content c.args.worker c.args.ask c.args.stamp e.0 c.in-Ok-drawn_serials.drawn c.in-Ok.decided c.planned.result c.decide.ensures.world c.requires.proper c.requires.last
          c.requires.station c.requires.number c.requires.stamp e.2 c.in-Ok-drawn_serials.ensures (c.planned.ensures.entry ∙ c.entry_of-entry.ensures) plan
          (subst (λ (o : Option Moved). IsMoved c.args.self.now.setup c.args.self.now.history c.args.ask.deed c.in-Ok.decided.reply o) (sym c.planned.ensures.moved)
          (moved_as c.args.self.now.setup c.decide.new.self.setup c.args.self.now.history c.decide.new.self.history c.args.ask.deed c.in-Ok.decided.reply c.in-Ok-kept_move.moved c.decide.ensures.same.0 c.decide.ensures.same.1 c.in-Ok-kept_move.ensures.moved))
          (few_as c.args.self.now.history c.decide.new.self.history c.decide.ensures.same.1 c.in-Ok-kept_move.ensures.few),
    )

pub returns-clause-room : goal.returns-clause-room
returns-clause-room g c =
    let is = c.planned.ensures.entry ∙ c.entry_of-entry.ensures in
    room_for_one c.ready.new.self c.planned.result c.in-Ok-ready.ensures.entries (subst (λ k. 1 ≤ slice_index c.ready.new.self.room.numbers k) (sym (ap (λ (x : Entry). x.station) is)) c.in-Ok-ready.ensures.numbers)
    (fits_plan c.ready.new.self.room c.in-Ok.decided c.planned.result c.planned.ensures.change c.planned.ensures.serials c.planned.ensures.known (fits_still _ _ c.in-Ok.decided.change c.in-Ok.decided.draw c.ready.ensures.kept c.in-Ok.ensures.room))
    (subst (λ (o : Option Moved). HasRoom c.ready.new.self.room.moves o) (sym c.planned.ensures.moved) c.in-Ok-ready.ensures.moves)

pub returns-clause-kept : goal.returns-clause-kept
returns-clause-kept g c = room_kept _ _ (roomier _ _ _ c.decide.ensures.kept c.ready.ensures.kept)

pub returns-in_default-kept_move-clause-plan : goal.returns-in_default-kept_move-clause-plan
returns-in_default-kept_move-clause-plan g c =
    let e = c.in-Ok.ensures.decides in
    (e.0, e.1, unplanned c.args.self.now.setup c.args.self.now.history c.args.self.now.content c.args.worker c.args.ask c.args.stamp e.0 c.in-Ok.decided c.decide.ensures.world e.2)

pub returns-in_default-kept_move-clause-kept : goal.returns-in_default-kept_move-clause-kept
returns-in_default-kept_move-clause-kept g c = room_kept _ _ c.decide.ensures.kept
