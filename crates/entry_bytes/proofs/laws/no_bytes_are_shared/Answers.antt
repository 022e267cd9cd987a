use Rattle.entry_bytes.proofs.Groups.{one_of_bytes}
use Rattle.entry_bytes.proofs.SiteWhole.{one_site}
use Rattle.entry_bytes.proofs.laws.no_bytes_are_shared.Goals as goal

pub returns-clause-groups : goal.returns-clause-groups
returns-clause-groups c = one_of_bytes

pub returns-clause-sites : goal.returns-clause-sites
returns-clause-sites c = one_site
