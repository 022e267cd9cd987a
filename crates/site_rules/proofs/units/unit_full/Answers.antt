use Rattle.site_rules.proofs.Elses.{unit_about}
use Rattle.site_rules.proofs.units.unit_full.Goals as goal

pub batch_for-requires-clause-about : goal.batch_for-requires-clause-about
batch_for-requires-clause-about c = unit_about c.args.asked.now.deed.now c.requires.unit
