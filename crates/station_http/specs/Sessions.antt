-- A whole session.
use Rattle.std.specs.Prelude.{◌≡◌, ◌⊎◌, true, ℕ, List, Option, Some, None, Result, Ok, Err}
use Rattle.station_http.specs.declared.fault.HttpFault.{HttpFault}
use Rattle.station_http.specs.declared.fault.HttpFault.TheVariants.{ReadFault, Memory}
use Rattle.station_http.specs.declared.asked.Asked.{Asked}
use Rattle.station_http.specs.declared.session.Session.{Session}
use Rattle.station_http.specs.Talk.{IsSession, IsFront, is_last}
use Rattle.station_http.specs.Gives.{EndsAt}

-- by its end: the requests of the bytes and no others, or a front of them
abbrev pub IsWholeBy : List ℕ → List Asked → Result (Unit {0}) HttpFault → Type 0
IsWholeBy bytes requests (Ok v) = IsSession bytes requests None
IsWholeBy bytes requests (Err ReadFault) = (rest : Option HttpFault) × IsSession bytes requests rest
IsWholeBy bytes requests (Err Memory) = IsFront bytes requests
IsWholeBy bytes requests (Err fault) = IsSession bytes requests (Some fault)

-- nothing is left where the session ended between two requests, or inside one; or an answer was the last
abbrev pub ReachesEnd : List Asked → Result (Unit {0}) HttpFault → Type 0 → Type 0
ReachesEnd requests (Ok v) at_end = at_end ⊎ (is_last requests ≡ true)
ReachesEnd requests (Err fault) at_end = EndsAt at_end fault

abbrev pub IsWhole : List ℕ → Session → Type 0 → Type 0
IsWhole bytes session at_end = IsWholeBy bytes session.requests.items session.end × ReachesEnd session.requests.items session.end at_end
