use Rattle.site_stores.proofs.Together.{nothing_yet}
use Rattle.site_stores.proofs.stores.Stores.new.Goals as goal

pub invariant_of-result : goal.invariant_of-result
invariant_of-result c = nothing_yet c.new.result c.new-2.result c.new-3.result c.new-2.ensures.rows c.new-3.ensures.units c.new-3.ensures.items
