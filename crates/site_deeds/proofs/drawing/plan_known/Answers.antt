use Rattle.site_deeds.proofs.drawing.plan_known.Goals as goal
use Rattle.std.proofs.Common.{◌≡◌, ◌+◌, ◌<◌, ℕ, length, ◌∙◌, sym, ap, subst, List}
use Rattle.serial_pool.specs.Held.{had_of, drawn_count}
use Rattle.gs1_keys.specs.Forms.{AreNew}
use Rattle.deed_words.specs.Names.{Text}
use Rattle.deed_words.specs.History.{AreNewFor}
use Rattle.batch_book.specs.Batches.{is_called}
use Rattle.batch_book.specs.Content.{world_in}
use Rattle.site_stores.proofs.Finding.{the_batch, within}
use Rattle.site_deeds.proofs.OfDraw.{not_new_for}
use Rattle.site_deeds.proofs.Serials.{had_is, may_draw}
use Rattle.site_deeds.proofs.Drawable.{drawable, gtin_is, few_in_all, product_form}

as_many : (c : goal.After-plan_known-arg-3-1) → length c.args.drawn.now ≡ c.args.count
as_many c = sym c.len.ensures ∙ c.if-len-from.false ∙ c.from.ensures

pub batch_at-order-requires : goal.batch_at-order-requires
batch_at-order-requires c = within (is_called c.args.name.now) c.args.stores.now.content.batches c.args.batch c.requires.place

pub unreachable-requires : goal.unreachable-requires
unreachable-requires c =
    let d = drawable c.args.setup.now (world_in c.args.stores.now.content) c.args.station c.args.name.now c.args.count c.batch_at-order.result c.requires.allowed (the_batch c.args.stores.now.content c.args.name.now c.args.batch c.batch_at-order.result c.requires.place c.batch_at-order.ensures) in
    c.in_default.not-Some d.product (c.product.ensures.is ∙ d.product_is)

pub plan_known-requires-clause-form : goal.plan_known-requires-clause-form
plan_known-requires-clause-form c = product_form c.in-Some.product c.in-Some.ensures.proper

pub plan_known-requires-clause-few : goal.plan_known-requires-clause-few
plan_known-requires-clause-few c =
    let d = drawable c.args.setup.now (world_in c.args.stores.now.content) c.args.station c.args.name.now c.args.count c.batch_at-order.result c.requires.allowed (the_batch c.args.stores.now.content c.args.name.now c.args.batch c.batch_at-order.result c.requires.place c.batch_at-order.ensures) in
    let many = few_in_all (world_in c.args.stores.now.content) c.args.pool.now.drawn c.batch_at-order.result.order.gtin c.args.count c.requires.pool d.few in
    subst (λ (n : ℕ). drawn_count c.batch_at-order.result.order.gtin c.args.pool.now.drawn + n < 4294967296) (sym (as_many c)) many

pub returns-in-Ok-clause-new : goal.returns-in-Ok-clause-new
returns-in-Ok-clause-new c =
    let w = world_in c.args.stores.now.content in
    let gtin = gtin_is w c.args.name.now c.batch_at-order.result (the_batch c.args.stores.now.content c.args.name.now c.args.batch c.batch_at-order.result c.requires.place c.batch_at-order.ensures) in
    let had = had_is w c.args.pool.now.drawn c.batch_at-order.result.order.gtin c.requires.pool in
    let both = c.in-Ok.ensures.known in
    let new = subst (λ (ss : List Text). AreNew (had_of c.batch_at-order.result.order.gtin c.args.pool.now.drawn) c.in-Some.product.form ss) (sym both.0) both.1 in
    subst (λ (t : Text). AreNewFor c.args.setup.now w t c.args.count c.in-Ok.plan.serials) gtin
    (may_draw c.args.setup.now w c.batch_at-order.result.order.gtin c.in-Some.product c.args.count c.in-Ok.plan.serials (sym c.product.ensures.is ∙ c.in-Some.is) (ap length both.0 ∙ sym c.len.ensures ∙ c.if-len-from.false ∙ c.from.ensures) (rw had at new))

pub returns-in-Ok-clause-gtin : goal.returns-in-Ok-clause-gtin
returns-in-Ok-clause-gtin c = c.in-Ok.ensures.gtin ∙ gtin_is (world_in c.args.stores.now.content) c.args.name.now c.batch_at-order.result (the_batch c.args.stores.now.content c.args.name.now c.args.batch c.batch_at-order.result c.requires.place c.batch_at-order.ensures)

pub returns-in-Err-NotNew-clause-fault : goal.returns-in-Err-NotNew-clause-fault
returns-in-Err-NotNew-clause-fault c = λ _ new.
    not_new_for c.args.setup.now (world_in c.args.stores.now.content) c.args.name.now c.args.count c.batch_at-order.result c.in-Some.product c.args.pool.now.drawn c.args.drawn.now _ (the_batch c.args.stores.now.content c.args.name.now c.args.batch c.batch_at-order.result c.requires.place c.batch_at-order.ensures) (sym c.product.ensures.is ∙ c.in-Some.is) c.requires.pool
    (rw (c.in-Err-NotNew.field-0-is) at c.in-Err-NotNew.ensures.known) new
