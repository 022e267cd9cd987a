use Rattle.site_core.proofs.Roomy.{room_first}
use Rattle.site_core.proofs.laws.the_first_has_room.Goals as goal

pub returns : goal.returns
returns c = room_first
