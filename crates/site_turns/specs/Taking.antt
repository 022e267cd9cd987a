-- Which requests a turn takes.
use Rattle.std.specs.Prelude.{◌≡◌, ℕ, List, [], ◌∷◌, ◌++◌, Option, Some, None}
use Rattle.deed_words.specs.Setups.{Setup}
use Rattle.deed_words.specs.Stations.{station_of}
use Rattle.deed_words.specs.declared.entry.Ask.{Ask}
use Rattle.site_turns.specs.Posted.{Posted}
use Rattle.site_turns.specs.Posts.{AreAsksOf, IsAskOf}

-- the station of the first request, if there is one and the site has it
abbrev pub first_station : Setup → List Posted → Option ℕ
first_station site [] = None
first_station site (post ∷ posts) = station_of site post.station

-- the first request was taken, as this ask
abbrev pub IsTaken : Setup → List Posted → Ask → List Posted → Type 0
IsTaken site posts ask rest = (post : Posted) × (posts ≡ post ∷ rest) × IsAskOf site post ask

-- there is none, or its station isn't known
abbrev pub IsNotTaken : Setup → List Posted → List Posted → Type 0
IsNotTaken site posts rest = (rest ≡ posts) × (first_station site posts ≡ None)

-- these asks are those of the first requests
pub record AreTaken (site : Setup) (posts : List Posted) (asks : List Ask) (rest : List Posted) : Type 0 where
  pub first : List Posted
  pub parts : posts ≡ first ++ rest
  pub are : AreAsksOf site first asks

-- .. up to one whose station isn't known
pub record TakesSome (site : Setup) (posts : List Posted) (asks : List Ask) (rest : List Posted) : Type 0 where
  pub taken : AreTaken site posts asks rest
  pub stopped : first_station site rest ≡ None
