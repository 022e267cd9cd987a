use Rattle.site_stores.proofs.Worlds.{phased_world, amended_world, said_world}
use Rattle.site_stores.proofs.effects.batches_change.Goals as goal

pub returns-clause-phased : goal.returns-clause-phased
returns-clause-phased c = phased_world

pub returns-clause-amended : goal.returns-clause-amended
returns-clause-amended c = amended_world

pub returns-clause-said : goal.returns-clause-said
returns-clause-said c = said_world
