use Rattle.site_stores.proofs.Packs.{may_pack, packed_world, can_unpack, unpacked_world}
use Rattle.site_stores.proofs.effects.children_change.Goals as goal

pub returns-clause-may_put : goal.returns-clause-may_put
returns-clause-may_put c = may_pack

pub returns-clause-put : goal.returns-clause-put
returns-clause-put c = packed_world

pub returns-clause-can_take : goal.returns-clause-can_take
returns-clause-can_take c = can_unpack

pub returns-clause-taken : goal.returns-clause-taken
returns-clause-taken c = unpacked_world
