use Rattle.entry_bytes.proofs.SiteSizes.{group_versions, site_versions}
use Rattle.entry_bytes.proofs.laws.each_version_has_one_spelling.Goals as goal

pub returns-clause-groups : goal.returns-clause-groups
returns-clause-groups c = group_versions

pub returns-clause-sites : goal.returns-clause-sites
returns-clause-sites c = site_versions
