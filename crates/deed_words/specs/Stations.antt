-- Stations by their names.
use Rattle.std.specs.Prelude.{ℕ, Option}
use Rattle.deed_words.specs.Names.{Text, same}
use Rattle.deed_words.specs.Chain.{each, when}
use Rattle.deed_words.specs.Setups.{Setup}

-- the place of the station with that name
unfoldable pub station_of : Setup → Text → Option ℕ
station_of site name = each site.stations (λ k station. when (same station.name name) k)
