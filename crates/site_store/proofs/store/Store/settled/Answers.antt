use Rattle.std.proofs.Common.{arith}
use Rattle.site_store.specs.Standing.{in_order, entries_of}
use Rattle.site_store.proofs.Finishing.{long_entries}
use Rattle.site_store.proofs.Mending.{order_long}
use Rattle.site_store.proofs.Whole.{empty_of}
use Rattle.site_store.proofs.store.Store.settled.Goals as goal

pub returns : goal.returns
returns g c =
    let items = c.args.self.now.pending.items in
    let one = long_entries (in_order items) in
    let two = order_long items in
    grind (arith, one, two, c.is_empty.ensures, empty_of (entries_of (in_order items)))
