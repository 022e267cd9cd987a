use Rattle.std.proofs.Common.{◌≡◌, map, take, Some}
use Rattle.site_deeds.proofs.packing.nodes_at.Given as goal

abbrev pub invariant-loop-place : goal.invariant-loop-place
invariant-loop-place l = map Some l.nodes ≡ take l.place-index l.places
