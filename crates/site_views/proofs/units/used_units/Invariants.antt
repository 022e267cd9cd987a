use Rattle.site_views.specs.Own.{is_in_use}
use Rattle.site_views.proofs.Counted.{IsCounted}
use Rattle.site_views.proofs.units.used_units.Given as goal

abbrev pub invariant-loop-unit : goal.invariant-loop-unit
invariant-loop-unit l = IsCounted l.fn.batch (is_in_use l.fn.level) l.tree.units l.unit-iterator l.count
