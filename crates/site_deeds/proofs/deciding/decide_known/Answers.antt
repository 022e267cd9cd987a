use Rattle.std.proofs.Common.{List, sym, ap, ◌∙◌, subst}
use Rattle.deed_words.specs.Names.{Text}
use Rattle.deed_words.specs.Rules.{broken}
use Rattle.batch_book.specs.Content.{world_in}
use Rattle.deed_words.specs.Deeds.{batch_named}
use Rattle.site_rules.specs.Asked.{IsSubject}
use Rattle.site_rules.specs.Suits.{is_about_batch}
use Rattle.site_deeds.proofs.OfDraw.{draw_batch}
use Rattle.site_deeds.proofs.OfFound.{batch_some, batch_place}
use Rattle.site_deeds.specs.Decisions.{IsDecided}
use Rattle.site_deeds.proofs.OfDecision.{refused_decided, refused_none, other_none, some_drawn, no_draw, breaks, allows}
use Rattle.site_deeds.proofs.deciding.decide_known.Goals as goal

pub returns-then-not-is_empty-clause-fault : goal.returns-then-not-is_empty-clause-fault
returns-then-not-is_empty-clause-fault c = λ _. refused_none c.args.setup.now (world_in c.args.stores.now.content) c.args.station c.args.deed.now c.in-Ok-Breaks.rule c.args.drawn.now (breaks c.args.setup.now c.args.stores.now.content c.args.station c.args.deed.now c.in-Ok-Breaks.field-0 c.in-Ok-Breaks.rule c.in-Ok-Breaks.subject c.in-Ok-Breaks.ensures c.in-Ok-Breaks.field-0-is).0 (some_drawn c.is_empty.result c.args.drawn.now c.is_empty.ensures c.if-not-is_empty.true)

pub returns-in-Ok-Breaks-clause-known : goal.returns-in-Ok-Breaks-clause-known
returns-in-Ok-Breaks-clause-known c =
    subst (λ (ss : List Text). IsDecided c.args.setup.now c.args.stores.now.content c.args.station c.args.deed.now ss c.refused.result) (sym (c.is_empty.ensures.0 c.if-not-is_empty.false))
    (refused_decided c.args.setup.now c.args.stores.now.content c.args.station c.args.deed.now c.refused.result c.in-Ok-Breaks.rule c.tell_whole.ensures (breaks c.args.setup.now c.args.stores.now.content c.args.station c.args.deed.now c.in-Ok-Breaks.field-0 c.in-Ok-Breaks.rule c.in-Ok-Breaks.subject c.in-Ok-Breaks.ensures c.in-Ok-Breaks.field-0-is).0 (subst (IsSubject c.args.stores.now.content c.args.deed.now) (sym c.refused.ensures.subject) (breaks c.args.setup.now c.args.stores.now.content c.args.station c.args.deed.now c.in-Ok-Breaks.field-0 c.in-Ok-Breaks.rule c.in-Ok-Breaks.subject c.in-Ok-Breaks.ensures c.in-Ok-Breaks.field-0-is).1) c.refused.ensures.reply c.refused.ensures.change c.refused.ensures.draw)

pub decide_known_draw-requires-clause-allowed : goal.decide_known_draw-requires-clause-allowed
decide_known_draw-requires-clause-allowed c = ap (broken c.args.setup.now (world_in c.args.stores.now.content) c.args.station) (sym c.in-Draw.is) ∙ (allows c.args.setup.now c.args.stores.now.content c.args.station c.args.deed.now c.in-Ok-Allowed.field-0 c.in-Ok-Allowed.found c.in-Ok-Allowed.ensures c.in-Ok-Allowed.field-0-is).0

pub returns-then-not-is_empty-2-clause-fault : goal.returns-then-not-is_empty-2-clause-fault
returns-then-not-is_empty-2-clause-fault c = λ _. other_none c.args.setup.now (world_in c.args.stores.now.content) c.args.station c.args.deed.now c.args.drawn.now (no_draw c.args.deed.now c.in_default.not-Draw) (allows c.args.setup.now c.args.stores.now.content c.args.station c.args.deed.now c.in-Ok-Allowed.field-0 c.in-Ok-Allowed.found c.in-Ok-Allowed.ensures c.in-Ok-Allowed.field-0-is).0 (some_drawn c.is_empty-2.result c.args.drawn.now c.is_empty-2.ensures c.if-not-is_empty-2.true)

pub decide_other-requires : goal.decide_other-requires
decide_other-requires c =
    let j = (allows c.args.setup.now c.args.stores.now.content c.args.station c.args.deed.now c.in-Ok-Allowed.field-0 c.in-Ok-Allowed.found c.in-Ok-Allowed.ensures c.in-Ok-Allowed.field-0-is) in
    record { proper = c.requires.proper; sound = c.requires.sound; allowed = j.0; found = j.1; other = no_draw c.args.deed.now c.in_default.not-Draw }

pub batch_found-batch-requires : goal.batch_found-batch-requires
unfolding is_about_batch batch_named
batch_found-batch-requires c =
    let j = (allows c.args.setup.now c.args.stores.now.content c.args.station c.args.deed.now c.in-Ok-Allowed.field-0 c.in-Ok-Allowed.found c.in-Ok-Allowed.ensures c.in-Ok-Allowed.field-0-is) in
    record { there = batch_some c.args.stores.now.content c.args.deed.now c.in-Ok-Allowed.found j.1 c.in-Draw.name (ap is_about_batch c.in-Draw.is) (ap (batch_named (world_in c.args.stores.now.content)) c.in-Draw.is) (draw_batch c.args.setup.now (world_in c.args.stores.now.content) c.args.station c.in-Draw.name c.in-Draw.count (ap (broken c.args.setup.now (world_in c.args.stores.now.content) c.args.station) (sym c.in-Draw.is) ∙ j.0)) }

pub decide_known_draw-requires-clause-place : goal.decide_known_draw-requires-clause-place
unfolding is_about_batch batch_named
decide_known_draw-requires-clause-place c = batch_place c.args.stores.now.content c.args.deed.now c.in-Ok-Allowed.found (allows c.args.setup.now c.args.stores.now.content c.args.station c.args.deed.now c.in-Ok-Allowed.field-0 c.in-Ok-Allowed.found c.in-Ok-Allowed.ensures c.in-Ok-Allowed.field-0-is).1 c.in-Draw.name (ap is_about_batch c.in-Draw.is) (ap (batch_named (world_in c.args.stores.now.content)) c.in-Draw.is) c.batch_found-batch.result c.batch_found-batch.ensures
