use Rattle.std.proofs.Common.{◌+◌, ◌≤◌, length, List, sym, subst}
use Rattle.gs1_keys.specs.Forms.{AreNew}
use Rattle.deed_words.specs.Effects.{gtin_of}
use Rattle.deed_words.specs.History.{serials_of}
use Rattle.deed_words.specs.Names.{Text}
use Rattle.deed_words.specs.declared.deed.Deed.TheVariants.{Draw}
use Rattle.batch_book.specs.Content.{world_in}
use Rattle.site_rules.specs.Asked.{IsSubject}
use Rattle.site_stores.specs.Holding.{Held}
use Rattle.site_deeds.proofs.OfDecision.{as_before, does_draw, draw_decided, room_left}
use Rattle.site_deeds.proofs.OfDraw.{rows_left}
use Rattle.site_deeds.proofs.OfFound.{subject_drawn}
use Rattle.site_deeds.proofs.deciding.decide_planned.Goals as goal

pub draw-requires-clause-new : goal.draw-requires-clause-new
draw-requires-clause-new c =
    let w = world_in c.args.stores.now.content in
    (c.requires.new.product.form, subst (λ (ss : List Text). AreNew (serials_of w (gtin_of w c.args.name.now)) c.requires.new.product.form ss) (sym c.serials.ensures) c.requires.new.new)

pub draw-requires-clause-rows : goal.draw-requires-clause-rows
draw-requires-clause-rows c =
    subst (λ (ss : List Text). length c.args.stores.now.content.rows + length ss ≤ 1000000) (sym c.serials.ensures)
    (rows_left c.args.setup.now c.args.stores.now.content c.args.station c.args.name.now c.args.count c.args.plan.serials c.requires.allowed c.requires.new.counted)

pub returns-clause-decided : goal.returns-clause-decided
returns-clause-decided c =
    let k = c.args.stores.now.content in
    let done = c.in_ok-done.done in
    let held : Held = record { content = k; room = c.draw.new.stores.room } in
    let does = does_draw c.args.setup.now c.draw.new.stores c.args.station c.args.name.now c.args.count c.args.plan.serials c.serials.result.now done c.serials.ensures c.in_ok-done.ensures.done in
    draw_decided c.args.setup.now held c.args.station c.args.name.now c.args.count c.accepted.result done c.args.plan c.requires.allowed
    (subst (IsSubject k (Draw c.args.name.now c.args.count)) (sym c.accepted.ensures.subject) (subject_drawn k c.args.name.now c.args.count c.args.batch c.requires.place))
    (as_before c.args.setup.now c.draw.new.stores k c.args.station (Draw c.args.name.now c.args.count) c.args.plan.serials done c.in_ok-done.ensures.content does)
    c.accepted.ensures.reply c.accepted.ensures.change c.accepted.ensures.draw c.requires.new c.requires.gtin c.requires.made_for

pub returns-clause-room : goal.returns-clause-room
returns-clause-room c = room_left c.draw.new.stores c.in_ok-done.done c.accepted.result _ _ c.accepted.ensures.change c.in_ok-done.ensures.done
