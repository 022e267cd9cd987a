use Rattle.std.proofs.Common.{[], sym, ap, ◌∙◌, subst}
use Rattle.std.proofs.KnownBytes.{Consumes-nil}
use Rattle.deed_words.specs.Rules.{broken}
use Rattle.batch_book.specs.Content.{world_in}
use Rattle.deed_words.specs.Deeds.{batch_named}
use Rattle.site_rules.specs.Asked.{IsSubject}
use Rattle.site_rules.specs.Suits.{is_about_batch}
use Rattle.site_deeds.proofs.OfDraw.{draw_batch}
use Rattle.site_deeds.proofs.OfFound.{batch_some, batch_place}
use Rattle.site_deeds.proofs.OfDecision.{refused_decides, other_decides, none_taken, no_room_needed, no_draw, breaks, allows}
use Rattle.site_deeds.proofs.deciding.decide.Goals as goal

pub returns-in-Ok-Breaks-clause-decides : goal.returns-in-Ok-Breaks-clause-decides
returns-in-Ok-Breaks-clause-decides g c = (
  [],
  Consumes-nil (g.W.Words.words_left c.args.words.now),
  refused_decides c.args.setup.now c.args.stores.now.content c.args.station c.args.deed.now c.refused.result c.in-Ok-Breaks.rule c.tell_whole.ensures (breaks c.args.setup.now c.args.stores.now.content c.args.station c.args.deed.now c.in-Ok-Breaks.field-0 c.in-Ok-Breaks.rule c.in-Ok-Breaks.subject c.in-Ok-Breaks.ensures c.in-Ok-Breaks.field-0-is).0 (subst (IsSubject c.args.stores.now.content c.args.deed.now) (sym c.refused.ensures.subject) (breaks c.args.setup.now c.args.stores.now.content c.args.station c.args.deed.now c.in-Ok-Breaks.field-0 c.in-Ok-Breaks.rule c.in-Ok-Breaks.subject c.in-Ok-Breaks.ensures c.in-Ok-Breaks.field-0-is).1) c.refused.ensures.reply c.refused.ensures.change c.refused.ensures.draw,
)

pub decide_draw-requires-clause-allowed : goal.decide_draw-requires-clause-allowed
decide_draw-requires-clause-allowed g c = ap (broken c.args.setup.now (world_in c.args.stores.now.content) c.args.station) (sym c.in-Draw.is) ∙ (allows c.args.setup.now c.args.stores.now.content c.args.station c.args.deed.now c.in-Ok-Allowed.field-0 c.in-Ok-Allowed.found c.in-Ok-Allowed.ensures c.in-Ok-Allowed.field-0-is).0

pub decide_other-requires : goal.decide_other-requires
decide_other-requires g c =
    let j = (allows c.args.setup.now c.args.stores.now.content c.args.station c.args.deed.now c.in-Ok-Allowed.field-0 c.in-Ok-Allowed.found c.in-Ok-Allowed.ensures c.in-Ok-Allowed.field-0-is) in
    record { proper = c.requires.proper; sound = c.requires.sound; allowed = j.0; found = j.1; other = no_draw c.args.deed.now c.in_default.not-Draw }

pub returns-in-Ok-clause-decides : goal.returns-in-Ok-clause-decides
returns-in-Ok-clause-decides g c = (
  [],
  Consumes-nil (g.W.Words.words_left c.args.words.now),
  other_decides c.args.setup.now c.args.stores.now.content c.args.station c.args.deed.now c.in-Ok.decided (no_draw c.args.deed.now c.in_default.not-Draw) (allows c.args.setup.now c.args.stores.now.content c.args.station c.args.deed.now c.in-Ok-Allowed.field-0 c.in-Ok-Allowed.found c.in-Ok-Allowed.ensures c.in-Ok-Allowed.field-0-is).0 c.in-Ok.ensures.decided,
)

pub returns-in-Ok-clause-draw_room : goal.returns-in-Ok-clause-draw_room
returns-in-Ok-clause-draw_room g c = no_room_needed c.in-Ok.decided.draw c.args.pool.now c.in-Ok.ensures.draw

pub returns-in-Err-clause-decides : goal.returns-in-Err-clause-decides
returns-in-Err-clause-decides g c = ([], Consumes-nil (g.W.Words.words_left c.args.words.now), none_taken _ _)

pub returns-clause-decides : goal.returns-clause-decides
returns-clause-decides g c = ([], Consumes-nil (g.W.Words.words_left c.args.words.now), none_taken _ _)

pub batch_found-batch-requires : goal.batch_found-batch-requires
unfolding is_about_batch batch_named
batch_found-batch-requires g c =
    let j = (allows c.args.setup.now c.args.stores.now.content c.args.station c.args.deed.now c.in-Ok-Allowed.field-0 c.in-Ok-Allowed.found c.in-Ok-Allowed.ensures c.in-Ok-Allowed.field-0-is) in
    record { there = batch_some c.args.stores.now.content c.args.deed.now c.in-Ok-Allowed.found j.1 c.in-Draw.name (ap is_about_batch c.in-Draw.is) (ap (batch_named (world_in c.args.stores.now.content)) c.in-Draw.is) (draw_batch c.args.setup.now (world_in c.args.stores.now.content) c.args.station c.in-Draw.name c.in-Draw.count (ap (broken c.args.setup.now (world_in c.args.stores.now.content) c.args.station) (sym c.in-Draw.is) ∙ j.0)) }

pub decide_draw-requires-clause-place : goal.decide_draw-requires-clause-place
unfolding is_about_batch batch_named
decide_draw-requires-clause-place g c = batch_place c.args.stores.now.content c.args.deed.now c.in-Ok-Allowed.found (allows c.args.setup.now c.args.stores.now.content c.args.station c.args.deed.now c.in-Ok-Allowed.field-0 c.in-Ok-Allowed.found c.in-Ok-Allowed.ensures c.in-Ok-Allowed.field-0-is).1 c.in-Draw.name (ap is_about_batch c.in-Draw.is) (ap (batch_named (world_in c.args.stores.now.content)) c.in-Draw.is) c.batch_found-batch.result c.batch_found-batch.ensures
