-- Laws of sessions.
use Rattle.std.specs.Prelude.{◌≡◌, ◌<◌, ℕ, List, ◌++◌, length, Option, Some, ⊤}
use Rattle.station_http.specs.declared.fault.HttpFault.{HttpFault}
use Rattle.station_http.specs.declared.fault.HttpFault.TheVariants.{Cut}
use Rattle.station_http.specs.declared.asked.Asked.{Asked}
use Rattle.station_http.specs.Limits.{session_limit}
use Rattle.station_http.specs.Talk.{IsSession, IsFront}

abbrev pub OneTalk : Type 0
OneTalk = (bytes : List ℕ) (xs ys : List Asked) (a b : Option HttpFault) → IsSession bytes xs a → IsSession bytes ys b → (xs ≡ ys) × (a ≡ b)

-- the fault isn't that the bytes end
abbrev pub IsNoCut : HttpFault → Type 0
IsNoCut (Cut n) = ⊥
IsNoCut fault = ⊤

abbrev pub FaultsStay : Type 0
FaultsStay = (bytes more : List ℕ) (requests : List Asked) (fault : HttpFault) → length (bytes ++ more) < session_limit → IsNoCut fault → IsSession bytes requests (Some fault) → IsSession (bytes ++ more) requests (Some fault)

abbrev pub RequestsStay : Type 0
RequestsStay = (bytes more : List ℕ) (requests : List Asked) → IsFront bytes requests → IsFront (bytes ++ more) requests
