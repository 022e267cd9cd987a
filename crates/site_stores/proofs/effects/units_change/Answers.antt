use Rattle.site_stores.proofs.Worlds.{marked_world, put_world, emptied_world}
use Rattle.site_stores.proofs.effects.units_change.Goals as goal

pub returns-clause-marked : goal.returns-clause-marked
returns-clause-marked c = marked_world

pub returns-clause-put : goal.returns-clause-put
returns-clause-put c = put_world

pub returns-clause-emptied : goal.returns-clause-emptied
returns-clause-emptied c = emptied_world
