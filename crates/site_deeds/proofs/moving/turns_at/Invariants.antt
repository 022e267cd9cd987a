use Rattle.std.proofs.Common.{take}
use Rattle.site_deeds.specs.Placed.{AreTurnsOf}
use Rattle.site_deeds.proofs.moving.turns_at.Given as goal

abbrev pub invariant-loop-place : goal.invariant-loop-place
invariant-loop-place l = AreTurnsOf l.fn.deed l.fn.stores.content.rows (take l.place-index l.places) l.turns
