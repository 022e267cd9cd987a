-- The requests of a call.
use Rattle.std.specs.Prelude.{◌<◌, List, [], ◌∷◌, length}
use Rattle.deed_words.specs.Proper.{IsProperAsk}
use Rattle.deed_words.specs.Setups.{Setup}
use Rattle.deed_words.specs.declared.entry.Ask.{Ask}

-- each is proper, and of a station of the setup
abbrev pub AreOf : Setup → List Ask → Type 0
AreOf site [] = Unit {0}
AreOf site (ask ∷ asks) = (ask.station < length site.stations) × IsProperAsk ask × AreOf site asks
