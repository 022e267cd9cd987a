use Rattle.site_store.proofs.OneReading.{reads_once}
use Rattle.site_store.proofs.laws.one_history.Goals as goal

pub returns : goal.returns
returns _ = record { once = reads_once }
