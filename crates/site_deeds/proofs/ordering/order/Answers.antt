use Rattle.std.proofs.Common.{◌≤◌, length, sym, ap, ◌∙◌, refl, subst, ℕ}
use Rattle.deed_words.specs.Orders.{orders_in, new_orders}
use Rattle.batch_book.specs.Content.{Content, world_in}
use Rattle.site_deeds.proofs.OfOrders.{order_does, few_new}
use Rattle.site_deeds.proofs.ordering.order.Goals as goal

pub overflow_sub-result : goal.overflow_sub-result
overflow_sub-result c =
    let few = few_new (orders_in (world_in c.args.stores.now.content)) c.args.rows.now in
    subst (λ (n : ℕ). n ≤ length c.args.rows.now) (sym (c.len-added.ensures ∙ ap length c.in_ok-new.ensures)) few

pub returns-clause-done : goal.returns-clause-done
returns-clause-done c =
    order_does c.ready.new.self _ c.args.rows.now c.in_ok-new.new c.len-added.result _ c.tell_whole.ensures
    (c.in_ok-new.ensures ∙ ap (λ (k : Content). new_orders (orders_in (world_in k)) c.args.rows.now) (sym c.in_ok-ready.ensures.content)) c.len-added.ensures refl refl refl
    (subst (λ (n : ℕ). n ≤ c.ready.new.self.room.batches) c.len-added.ensures c.in_ok-ready.ensures.ok.batches)
