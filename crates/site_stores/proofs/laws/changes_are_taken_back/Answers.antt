use Rattle.site_stores.proofs.Undoing.{applied_and_back}
use Rattle.site_stores.proofs.laws.changes_are_taken_back.Goals as goal

pub returns : goal.returns
returns c = applied_and_back
