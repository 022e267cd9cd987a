use Rattle.site_stores.proofs.Moving.{moves_may, turned_world}
use Rattle.site_stores.proofs.effects.rows_change.Goals as goal

pub returns-clause-may : goal.returns-clause-may
returns-clause-may c = moves_may

pub returns-clause-turned : goal.returns-clause-turned
returns-clause-turned c = turned_world
