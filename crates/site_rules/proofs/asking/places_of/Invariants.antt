use Rattle.std.proofs.Common.{◌≡◌, map, take}
use Rattle.site_stores.specs.Places.{place_of}
use Rattle.site_rules.proofs.asking.places_of.Given as goal

abbrev pub invariant-loop-name : goal.invariant-loop-name
invariant-loop-name l = l.places.items ≡ map (place_of l.fn.stores.content.rows l.fn.stores.content.units) (take l.name-index l.fn.names)
