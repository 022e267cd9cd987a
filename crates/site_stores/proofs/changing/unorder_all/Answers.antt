use Rattle.std.proofs.Common.{◌≡◌, ◌+◌, ◌∷◌, [], ◌++◌, List, length, sym, ap, subst, ◌∙◌, rules, arith}
use Rattle.std.proofs.lemmas.List.{length_push}
use Rattle.deed_words.specs.declared.deed.OrderRow.{OrderRow}
use Rattle.deed_words.specs.declared.world.Batch.{Batch}
use Rattle.pack_tree.proofs.Stepping.{undone, split_back}
use Rattle.site_stores.specs.Changes.{one_ordered, one_fewer, IsNew, unordered, WereOrdered}
use Rattle.site_stores.proofs.Booking.{order_law, fewer_unused}
use Rattle.site_stores.proofs.changing.unorder_all.Goals as goal

pub loop-order-preserved : goal.loop-order-preserved
loop-order-preserved c =
    let first : List OrderRow = c.in-Some.first.now in
    let order : OrderRow = c.in-Some._order.now in
    let cut : c.loop-order.left.now ≡ first ++ order ∷ [] = search rules in
    let batches : List Batch = c.loop-order.book.batches in
    let long : length c.loop-order.left.now ≡ length first + 1 = ap (λ (os : List OrderRow). length os) cut ∙ length_push first order in
    let w = undone one_ordered IsNew one_fewer order_law batches first order (subst (λ (os : List OrderRow). WereOrdered batches os) cut c.loop-order.invariant.were) in
    let new : c.remove_last.new.self.batches ≡ one_fewer batches order = c.remove_last.ensures.batches in
    record {
      were = subst (λ (bs : List Batch). WereOrdered bs first) (sym new) w.3;
      batches = ap (λ (bs : List Batch). unordered bs first) new ∙ sym (split_back one_ordered IsNew one_fewer order_law batches first order) ∙ ap (λ (os : List OrderRow). unordered batches os) (sym cut) ∙ c.loop-order.invariant.batches;
      declarations = c.remove_last.ensures.declarations ∙ c.loop-order.invariant.declarations;
      unused = fewer_unused c.loop-order.book.declarations c.remove_last.new.self.declarations batches c.remove_last.new.self.batches (length c.loop-order.left.now) (length first) c.remove_last.ensures.declarations new long c.loop-order.invariant.unused;
      batch_spare = let spare = c.remove_last.ensures.batch_spare in let so_far = c.loop-order.invariant.batch_spare in omega (arith, spare, so_far, long);
      declaration_spare = c.remove_last.ensures.declaration_spare ∙ c.loop-order.invariant.declaration_spare;
    }
