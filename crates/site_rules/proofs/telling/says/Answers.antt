use Rattle.std.proofs.Common.{sym, ap, ◌∙◌}
use Rattle.site_rules.specs.Suits.{suits}
use Rattle.site_rules.proofs.telling.says.Goals as goal

pub unknown_batch-requires-clause-about : goal.unknown_batch-requires-clause-about
unfolding suits
unknown_batch-requires-clause-about c = sym (ap (suits c.args.asked.now.deed.now) c.in-UnknownBatch.is) ∙ c.requires.suited

pub unknown_unit-requires-clause-unit : goal.unknown_unit-requires-clause-unit
unfolding suits
unknown_unit-requires-clause-unit c = sym (ap (suits c.args.asked.now.deed.now) c.in-UnknownUnit.is) ∙ c.requires.suited

pub not_started-requires-clause-about : goal.not_started-requires-clause-about
unfolding suits
not_started-requires-clause-about c = sym (ap (suits c.args.asked.now.deed.now) c.in-NotStarted.is) ∙ c.requires.suited

pub started-requires-clause-about : goal.started-requires-clause-about
unfolding suits
started-requires-clause-about c = sym (ap (suits c.args.asked.now.deed.now) c.in-Started.is) ∙ c.requires.suited

pub closed-requires-clause-about : goal.closed-requires-clause-about
unfolding suits
closed-requires-clause-about c = sym (ap (suits c.args.asked.now.deed.now) c.in-Closed.is) ∙ c.requires.suited

pub unit_void-requires-clause-unit : goal.unit_void-requires-clause-unit
unfolding suits
unit_void-requires-clause-unit c = sym (ap (suits c.args.asked.now.deed.now) c.in-UnitVoid.is) ∙ c.requires.suited

pub unit_sealed-requires-clause-unit : goal.unit_sealed-requires-clause-unit
unfolding suits
unit_sealed-requires-clause-unit c = sym (ap (suits c.args.asked.now.deed.now) c.in-UnitSealed.is) ∙ c.requires.suited

pub unit_not_sealed-requires-clause-unit : goal.unit_not_sealed-requires-clause-unit
unfolding suits
unit_not_sealed-requires-clause-unit c = sym (ap (suits c.args.asked.now.deed.now) c.in-UnitNotSealed.is) ∙ c.requires.suited

pub pool_thin-requires-clause-draw : goal.pool_thin-requires-clause-draw
unfolding suits
pool_thin-requires-clause-draw c = sym (ap (suits c.args.asked.now.deed.now) c.in-PoolThin.is) ∙ c.requires.suited

pub few_fresh-requires-clause-lend : goal.few_fresh-requires-clause-lend
unfolding suits
few_fresh-requires-clause-lend c = sym (ap (suits c.args.asked.now.deed.now) c.in-FewFresh.is) ∙ c.requires.suited

pub other_batch-requires-clause-about : goal.other_batch-requires-clause-about
unfolding suits
other_batch-requires-clause-about c = sym (ap (suits c.args.asked.now.deed.now) c.in-OtherBatch.is) ∙ c.requires.suited

pub wrong_level-requires-clause-about : goal.wrong_level-requires-clause-about
unfolding suits
wrong_level-requires-clause-about c = sym (ap (suits c.args.asked.now.deed.now) c.in-WrongLevel.is) ∙ c.requires.suited

pub not_child-requires-clause-unit : goal.not_child-requires-clause-unit
unfolding suits
not_child-requires-clause-unit c = sym (ap (suits c.args.asked.now.deed.now) c.in-NotChild.is) ∙ c.requires.suited

pub unit_full-requires-clause-unit : goal.unit_full-requires-clause-unit
unfolding suits
unit_full-requires-clause-unit c = sym (ap (suits c.args.asked.now.deed.now) c.in-UnitFull.is) ∙ c.requires.suited

pub unit_not_empty-requires-clause-unit : goal.unit_not_empty-requires-clause-unit
unfolding suits
unit_not_empty-requires-clause-unit c = sym (ap (suits c.args.asked.now.deed.now) c.in-UnitNotEmpty.is) ∙ c.requires.suited

pub nothing_inside-requires-clause-unit : goal.nothing_inside-requires-clause-unit
unfolding suits
nothing_inside-requires-clause-unit c = sym (ap (suits c.args.asked.now.deed.now) c.in-NothingInside.is) ∙ c.requires.suited

pub not_accounted-requires-clause-close : goal.not_accounted-requires-clause-close
unfolding suits
not_accounted-requires-clause-close c = sym (ap (suits c.args.asked.now.deed.now) c.in-NotAccounted.is) ∙ c.requires.suited
