use Rattle.std.proofs.Common.{take}
use Rattle.site_deeds.specs.Placed.{AreLent}
use Rattle.site_deeds.proofs.lending.lend_each.Given as goal

abbrev pub invariant-loop-item : goal.invariant-loop-item
invariant-loop-item l = AreLent l.fn.line l.fn.stores.content.rows (take l.item-index l.items) l.turns l.serials
