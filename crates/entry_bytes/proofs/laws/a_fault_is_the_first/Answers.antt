use Rattle.entry_bytes.proofs.SiteFronts.{entries_cut, setup_cut}
use Rattle.entry_bytes.proofs.laws.a_fault_is_the_first.Goals as goal

pub returns-clause-groups : goal.returns-clause-groups
returns-clause-groups c = entries_cut

pub returns-clause-sites : goal.returns-clause-sites
returns-clause-sites c = setup_cut
