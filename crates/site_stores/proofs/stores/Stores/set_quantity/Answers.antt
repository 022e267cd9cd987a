use Rattle.site_stores.proofs.Booking.{one_booked, as_many_amended}
use Rattle.site_stores.proofs.stores.Stores.set_quantity.Goals as goal

pub invariant_of-self : goal.invariant_of-self
invariant_of-self c =
    one_booked c.self.inside.book c.amend.new.self c.self.inside.items c.self.inside.tree c.self.inside.row_room c.self.invariant (as_many_amended c.self.inside.book.batches c.amend.new.self.batches c.args.batch c.args.quantity c.amend.ensures.batches)
