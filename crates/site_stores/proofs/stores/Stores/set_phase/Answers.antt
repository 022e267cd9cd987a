use Rattle.site_stores.proofs.Booking.{one_booked, as_many_phased}
use Rattle.site_stores.proofs.stores.Stores.set_phase.Goals as goal

pub invariant_of-self : goal.invariant_of-self
invariant_of-self c =
    one_booked c.self.inside.book c.set_phase.new.self c.self.inside.items c.self.inside.tree c.self.inside.row_room c.self.invariant (as_many_phased c.self.inside.book.batches c.set_phase.new.self.batches c.args.batch c.args.phase c.set_phase.ensures.batches)
