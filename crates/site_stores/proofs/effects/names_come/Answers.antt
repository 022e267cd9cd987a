use Rattle.site_stores.proofs.Draws.{new_may, drawn_world, names_after}
use Rattle.site_stores.proofs.effects.names_come.Goals as goal

pub returns-clause-may_draw : goal.returns-clause-may_draw
returns-clause-may_draw c = new_may

pub returns-clause-drawn : goal.returns-clause-drawn
returns-clause-drawn c = drawn_world

pub returns-clause-names : goal.returns-clause-names
returns-clause-names c = names_after
