use Rattle.std.proofs.Common.{List, length, ap, ◌∙◌, arith}
use Rattle.deed_words.specs.declared.world.Batch.{Batch}
use Rattle.site_stores.proofs.Booking.{one_booked, more_ordered}
use Rattle.site_stores.proofs.stores.Stores.order.Goals as goal

pub invariant_of-self : goal.invariant_of-self
invariant_of-self c =
    let long = ap (λ (bs : List Batch). length bs) c.order_all.ensures.batches ∙ more_ordered c.self.inside.book.batches c.args.orders.now in
    one_booked c.self.inside.book c.order_all.new.book c.self.inside.items c.self.inside.tree c.self.inside.row_room c.self.invariant (omega (arith, long))
