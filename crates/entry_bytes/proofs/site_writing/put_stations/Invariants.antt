use Rattle.std.proofs.Common.{◌≡◌, ◌++◌, ◌∷◌, [], length, take}
use Rattle.std.specs.Prelude.{All}
use Rattle.std.specs.List.{flat_map}
use Rattle.gs1_keys.specs.Keys.{IsText}
use Rattle.entry_bytes.specs.Sites.{station_bytes}
use Rattle.entry_bytes.proofs.site_writing.put_stations.Given as goal

abbrev pub invariant-loop-item : goal.invariant-loop-item
invariant-loop-item l = (l.out.items ≡ l.fn.out.items ++ ((length l.items ∷ []) ++ flat_map station_bytes (take l.item-index l.items))) × All (λ station. IsText station.name) (take l.item-index l.items)
