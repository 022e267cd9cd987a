-- What a POST asks of a site.
use Rattle.std.specs.Prelude.{◌≡◌, ℕ, List, [], ◌∷◌, Option, Some, None, Result, Ok, Err}
use Rattle.deed_words.specs.Names.{Text}
use Rattle.deed_words.specs.Setups.{Setup}
use Rattle.deed_words.specs.Stations.{station_of}
use Rattle.deed_words.specs.declared.entry.Ask.{Ask}
use Rattle.site_files.specs.Due.{◌>>=◌}
use Rattle.deed_json.specs.Asked.{object_of, known_as, or_bad_deed}
use Rattle.deed_json.specs.Deeds.{said_of}
use Rattle.deed_json.specs.declared.ask.AskFault.{AskFault}
use Rattle.site_turns.specs.Posted.{Posted}

-- What a POST of a station and a number with this body asks of the site, or its first fault: the body that is no JSON
-- object is told before the station that isn't known, and the station before the deed.
unfoldable pub posted : Setup → Text → ℕ → List ℕ → Result Ask AskFault
posted site name number body = do
  d ← object_of body
  station ← known_as site name
  said ← or_bad_deed (said_of d)
  Ok (record { station = station; number = number; operator = said.operator; deed = said.deed })

-- what a request whose body was read asks, as this station
abbrev pub ask_of : ℕ → Posted → Ask
ask_of station post = record { station = station; number = post.number; operator = post.said.operator; deed = post.said.deed }

-- .. where the site has its station
abbrev pub IsAskOf : Setup → Posted → Ask → Type 0
IsAskOf site post ask = (station : ℕ) × (station_of site post.station ≡ Some station) × (ask ≡ ask_of station post)

-- each of these asks is that of the request at its place
abbrev pub AreAsksOf : Setup → List Posted → List Ask → Type 0
AreAsksOf site [] [] = Unit {0}
AreAsksOf site (post ∷ posts) (ask ∷ asks) = IsAskOf site post ask × AreAsksOf site posts asks
AreAsksOf site posts asks = ⊥
