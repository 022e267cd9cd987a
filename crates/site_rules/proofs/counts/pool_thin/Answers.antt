use Rattle.site_rules.proofs.Elses.{draw_about}
use Rattle.site_rules.proofs.counts.pool_thin.Goals as goal

pub batch_for-requires-clause-about : goal.batch_for-requires-clause-about
batch_for-requires-clause-about c = draw_about c.args.asked.now.deed.now c.requires.draw
