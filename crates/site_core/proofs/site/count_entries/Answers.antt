use Rattle.site_core.proofs.Entering.{counted}
use Rattle.site_core.proofs.site.count_entries.Goals as goal

pub returns-clause-is : goal.returns-clause-is
returns-clause-is c = λ told. counted told c.args.kept.now
