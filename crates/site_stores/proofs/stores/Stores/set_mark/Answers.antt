use Rattle.std.proofs.Common.{◌-◌, ◌∙◌, ap}
use Rattle.site_stores.specs.Holding.{Held}
use Rattle.site_stores.proofs.Booking.{one_marked, as_many_marked}
use Rattle.site_stores.proofs.stores.Stores.set_mark.Goals as goal

pub invariant_of-self : goal.invariant_of-self
invariant_of-self c =
    one_marked c.self.inside.book c.self.inside.items c.self.inside.tree c.set_mark.new.self c.self.inside.row_room c.args.unit c.args.mark c.self.invariant
    c.set_mark.ensures.units c.set_mark.ensures.items c.set_mark.ensures.rooms.0 c.set_mark.ensures.rooms.1

pub returns-clause-room : goal.returns-clause-room
returns-clause-room c =
    let long = as_many_marked c.self.inside.tree.units c.set_mark.new.self.units c.args.unit c.args.mark c.set_mark.ensures.units in
    (λ z. record { batches = c.self.inside.book.batch_spare; declarations = c.self.inside.book.declaration_spare; rows = c.self.inside.row_room; units = c.set_mark.ensures.rooms.1 z - long z })
    ∙ ap (λ (h : Held). h.room) c.self.view_is
