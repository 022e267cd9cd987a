use Rattle.site_stores.proofs.Growing.{ordered_world, made_world}
use Rattle.site_stores.proofs.effects.what_comes.Goals as goal

pub returns-clause-ordered : goal.returns-clause-ordered
returns-clause-ordered c = ordered_world

pub returns-clause-made : goal.returns-clause-made
returns-clause-made c = made_world
