use Rattle.entry_bytes.proofs.Sizes.{entry_some, group_written, group_longest, group_counted}
use Rattle.entry_bytes.proofs.SiteSizes.{site_short}
use Rattle.entry_bytes.proofs.laws.sizes_are_sums.Goals as goal

pub returns-clause-written : goal.returns-clause-written
returns-clause-written c = group_written

pub returns-clause-longest : goal.returns-clause-longest
returns-clause-longest c = group_longest

pub returns-clause-counted : goal.returns-clause-counted
returns-clause-counted c = group_counted

pub returns-clause-some : goal.returns-clause-some
returns-clause-some c = entry_some

pub returns-clause-site : goal.returns-clause-site
returns-clause-site c = site_short
