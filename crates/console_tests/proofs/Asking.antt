-- Requests of a call, one more of them.
use Rattle.std.proofs.Common.{◌<◌, Bool, true, false, cond, List, [], ◌∷◌, ◌++◌, length}
use Rattle.deed_words.specs.Proper.{IsProperAsk}
use Rattle.deed_words.specs.Setups.{Setup}
use Rattle.deed_words.specs.declared.entry.Ask.{Ask}
use Rattle.site_store.specs.Asked.{AreOf}

are_push : (site : Setup) (asks : List Ask) (ask : Ask) → AreOf site asks → ask.station < length site.stations → IsProperAsk ask → AreOf site (asks ++ ask ∷ [])
are_push site [] ask are station proper = (station, proper, tt)
are_push site (first ∷ asks) ask are station proper = (are.0, are.1, are_push site asks ask are.2 station proper)

-- .. where it was put behind the others
pub are_put : (site : Setup) (asks : List Ask) (ask : Ask) (put : Bool) → AreOf site asks → ask.station < length site.stations → IsProperAsk ask → AreOf site (cond put (asks ++ ask ∷ []) asks)
are_put site asks ask true are station proper = are_push site asks ask are station proper
are_put site asks ask false are station proper = are
