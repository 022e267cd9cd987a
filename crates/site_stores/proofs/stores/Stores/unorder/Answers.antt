use Rattle.std.proofs.Common.{length, sym, subst}
use Rattle.site_stores.specs.Changes.{AreUnused, WereOrdered}
use Rattle.site_stores.specs.Holding.{Held}
use Rattle.site_stores.proofs.Booking.{one_unbooked, unordered_all}
use Rattle.site_stores.proofs.stores.Stores.unorder.Goals as goal

pub invariant_of-self : goal.invariant_of-self
invariant_of-self c =
    let done = subst (λ (h : Held). WereOrdered h.content.batches c.args.orders.now) (sym c.self.view_is) c.requires.done in
    let unused = subst (λ (h : Held). AreUnused h.content (length c.args.orders.now)) (sym c.self.view_is) c.requires.unused in
    one_unbooked c.self.inside.book c.unorder_all.new.book c.self.inside.items c.self.inside.tree c.self.inside.row_room (length c.args.orders.now) c.self.invariant unused
    (unordered_all c.self.inside.book.batches c.unorder_all.new.book.batches c.args.orders.now done c.unorder_all.ensures.batches)
