use Rattle.item_store.proofs.Changes.{store_none}
use Rattle.item_store.proofs.items.Items.new.Goals as goal

pub invariant_of-result : goal.invariant_of-result
invariant_of-result c =
    rw (c.new.ensures.items) (rw (c.new-4.ensures.items) (rw (c.new-5.ensures.items) (rw (c.new-6.ensures.items) (store_none c.new-2.result c.new-3.result _ c.new-2.ensures.hashes c.new-3.ensures.groups))))
