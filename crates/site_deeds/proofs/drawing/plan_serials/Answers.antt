use Rattle.std.proofs.Common.{◌∙◌, sym, ap, subst, List}
use Rattle.serial_pool.specs.Held.{had_of}
use Rattle.serial_pool.specs.Drawing.{IsDraw, IsSpent, IsUnfinished}
use Rattle.gs1_keys.specs.declared.form.SerialForm.{SerialForm}
use Rattle.deed_words.specs.Names.{Text}
use Rattle.deed_words.specs.Effects.{gtin_of}
use Rattle.deed_words.specs.History.{serials_of, AreNewFor}
use Rattle.batch_book.specs.Batches.{is_called}
use Rattle.batch_book.specs.Content.{world_in}
use Rattle.site_stores.proofs.Finding.{the_batch, within}
use Rattle.site_deeds.specs.Draws.{form_for}
use Rattle.site_deeds.proofs.Serials.{had_is, may_draw}
use Rattle.site_deeds.proofs.Drawable.{drawable, gtin_is, form_is, few_in_all, same_product, no_thin, product_form}
use Rattle.site_deeds.proofs.drawing.plan_serials.Goals as goal

pub batch_at-order-requires : goal.batch_at-order-requires
batch_at-order-requires g c = within (is_called c.args.name.now) c.args.stores.now.content.batches c.args.batch c.requires.place

pub unreachable-requires : goal.unreachable-requires
unreachable-requires g c =
    let d = drawable c.args.setup.now (world_in c.args.stores.now.content) c.args.station c.args.name.now c.args.count c.batch_at-order.result c.requires.allowed (the_batch c.args.stores.now.content c.args.name.now c.args.batch c.batch_at-order.result c.requires.place c.batch_at-order.ensures) in
    c.in_default.not-Some d.product (c.product.ensures.is ∙ d.product_is)

pub plan_draw-requires-clause-form : goal.plan_draw-requires-clause-form
plan_draw-requires-clause-form g c = product_form c.in-Some.product c.in-Some.ensures.proper

pub plan_draw-requires-clause-some : goal.plan_draw-requires-clause-some
plan_draw-requires-clause-some g c =
    let d = drawable c.args.setup.now (world_in c.args.stores.now.content) c.args.station c.args.name.now c.args.count c.batch_at-order.result c.requires.allowed (the_batch c.args.stores.now.content c.args.name.now c.args.batch c.batch_at-order.result c.requires.place c.batch_at-order.ensures) in
    d.some

pub plan_draw-requires-clause-few : goal.plan_draw-requires-clause-few
plan_draw-requires-clause-few g c =
    let d = drawable c.args.setup.now (world_in c.args.stores.now.content) c.args.station c.args.name.now c.args.count c.batch_at-order.result c.requires.allowed (the_batch c.args.stores.now.content c.args.name.now c.args.batch c.batch_at-order.result c.requires.place c.batch_at-order.ensures) in
    few_in_all (world_in c.args.stores.now.content) c.args.pool.now.drawn c.batch_at-order.result.order.gtin c.args.count c.requires.pool d.few

pub unreachable-requires-in-Err-PoolThin : goal.unreachable-requires-in-Err-PoolThin
unreachable-requires-in-Err-PoolThin g c =
    let d = drawable c.args.setup.now (world_in c.args.stores.now.content) c.args.station c.args.name.now c.args.count c.batch_at-order.result c.requires.allowed (the_batch c.args.stores.now.content c.args.name.now c.args.batch c.batch_at-order.result c.requires.place c.batch_at-order.ensures) in
    let same = same_product d.product c.in-Some.product (sym d.product_is ∙ sym c.product.ensures.is ∙ c.in-Some.is) in
    no_thin (world_in c.args.stores.now.content) c.args.pool.now.drawn c.batch_at-order.result.order.gtin c.args.count d.product c.in-Some.product c.in-Err-PoolThin.field-0-0 c.in-Err-PoolThin.field-0-1 c.in-Err-PoolThin.field-0-2 c.requires.pool same d.ample
    (rw (c.in-Err-PoolThin.field-0-is) at c.in-Err-PoolThin.ensures.draw.2).0

pub returns-in-Ok-clause-draw : goal.returns-in-Ok-clause-draw
returns-in-Ok-clause-draw g c =
    let w = (world_in c.args.stores.now.content) in
    let gtin = gtin_is w c.args.name.now c.batch_at-order.result (the_batch c.args.stores.now.content c.args.name.now c.args.batch c.batch_at-order.result c.requires.place c.batch_at-order.ensures) in
    let had = had_is w c.args.pool.now.drawn c.batch_at-order.result.order.gtin c.requires.pool ∙ ap (serials_of w) gtin in
    let form = form_is c.args.setup.now c.batch_at-order.result.order.gtin c.in-Some.product (sym c.product.ensures.is ∙ c.in-Some.is) ∙ ap (form_for c.args.setup.now) gtin in
    let e = c.in-Ok.ensures.draw in
    (e.0, e.1, subst (λ (h : List Text). IsDraw h (form_for c.args.setup.now (gtin_of w c.args.name.now)) c.args.count e.0 c.in-Ok.plan.serials) had (subst (λ (f : SerialForm). IsDraw (had_of c.batch_at-order.result.order.gtin c.args.pool.now.drawn) f c.args.count e.0 c.in-Ok.plan.serials) form e.2.1))

pub returns-in-Ok-clause-new : goal.returns-in-Ok-clause-new
returns-in-Ok-clause-new g c =
    let w = (world_in c.args.stores.now.content) in
    let gtin = gtin_is w c.args.name.now c.batch_at-order.result (the_batch c.args.stores.now.content c.args.name.now c.args.batch c.batch_at-order.result c.requires.place c.batch_at-order.ensures) in
    let had = had_is w c.args.pool.now.drawn c.batch_at-order.result.order.gtin c.requires.pool in
    subst (λ (t : Text). AreNewFor c.args.setup.now w t c.args.count c.in-Ok.plan.serials) gtin
    (may_draw c.args.setup.now w c.batch_at-order.result.order.gtin c.in-Some.product c.args.count c.in-Ok.plan.serials (sym c.product.ensures.is ∙ c.in-Some.is) c.in-Ok.ensures.draw.2.1.enough (rw had at c.in-Ok.ensures.new))

pub returns-in-Ok-clause-gtin : goal.returns-in-Ok-clause-gtin
returns-in-Ok-clause-gtin g c = c.in-Ok.ensures.gtin ∙ gtin_is (world_in c.args.stores.now.content) c.args.name.now c.batch_at-order.result (the_batch c.args.stores.now.content c.args.name.now c.args.batch c.batch_at-order.result c.requires.place c.batch_at-order.ensures)

pub returns-in-Err-WordsSpent-clause-draw : goal.returns-in-Err-WordsSpent-clause-draw
returns-in-Err-WordsSpent-clause-draw g c =
    let w = (world_in c.args.stores.now.content) in
    let gtin = gtin_is w c.args.name.now c.batch_at-order.result (the_batch c.args.stores.now.content c.args.name.now c.args.batch c.batch_at-order.result c.requires.place c.batch_at-order.ensures) in
    let had = had_is w c.args.pool.now.drawn c.batch_at-order.result.order.gtin c.requires.pool ∙ ap (serials_of w) gtin in
    let form = form_is c.args.setup.now c.batch_at-order.result.order.gtin c.in-Some.product (sym c.product.ensures.is ∙ c.in-Some.is) ∙ ap (form_for c.args.setup.now) gtin in
    let e = c.in-Err-WordsSpent.ensures.draw in
    let spent = rw (c.in-Err-WordsSpent.field-0-is) at e.2 in
    (e.0, e.1, subst (λ (h : List Text). IsSpent h (form_for c.args.setup.now (gtin_of w c.args.name.now)) c.args.count e.0 c.in-Err-WordsSpent.found) had (subst (λ (f : SerialForm). IsSpent (had_of c.batch_at-order.result.order.gtin c.args.pool.now.drawn) f c.args.count e.0 c.in-Err-WordsSpent.found) form spent.1))

pub returns-in-Err-WordsFault-clause-draw : goal.returns-in-Err-WordsFault-clause-draw
returns-in-Err-WordsFault-clause-draw g c =
    let w = (world_in c.args.stores.now.content) in
    let gtin = gtin_is w c.args.name.now c.batch_at-order.result (the_batch c.args.stores.now.content c.args.name.now c.args.batch c.batch_at-order.result c.requires.place c.batch_at-order.ensures) in
    let had = had_is w c.args.pool.now.drawn c.batch_at-order.result.order.gtin c.requires.pool ∙ ap (serials_of w) gtin in
    let form = form_is c.args.setup.now c.batch_at-order.result.order.gtin c.in-Some.product (sym c.product.ensures.is ∙ c.in-Some.is) ∙ ap (form_for c.args.setup.now) gtin in
    let e = c.in-Err-WordsFault.ensures.draw in
    let stopped = rw (c.in-Err-WordsFault.field-0-is) at e.2 in
    (e.0, e.1, subst (λ (h : List Text). IsUnfinished h (form_for c.args.setup.now (gtin_of w c.args.name.now)) c.args.count e.0) had (subst (λ (f : SerialForm). IsUnfinished (had_of c.batch_at-order.result.order.gtin c.args.pool.now.drawn) f c.args.count e.0) form stopped.1))
