use Rattle.site_console.proofs.RefusalNames.{named}
use Rattle.site_console.proofs.laws.logs_name_rules_as_replies_do.Goals as goal

pub returns : goal.returns
returns c = named
