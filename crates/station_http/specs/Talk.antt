-- The requests that bytes begin with, and how the rest ends.
use Rattle.std.specs.Prelude.{◌≡◌, ℕ, ◌==◌, Bool, true, false, List, [], ◌∷◌, length, drop, nat_le, Option, Some, None, MatchBool, if◌then◌else◌, ⊤}
use Rattle.station_http.specs.declared.fault.HttpFault.{HttpFault}
use Rattle.station_http.specs.declared.fault.HttpFault.TheVariants.{Cut, SessionLong}
use Rattle.station_http.specs.declared.asked.Asked.{Asked}
use Rattle.station_http.specs.Found.{Found, part, wrong, whole, IsFound}
use Rattle.station_http.specs.Limits.{session_limit}

abbrev pub is_whole : Found → Bool
is_whole (part n) = false
is_whole (wrong fault) = false
is_whole (whole n asked) = true

-- how bytes end that hold no further whole request: between two requests, or by a fault
abbrev pub end_of : Bool → Found → Option HttpFault
end_of true found = Some SessionLong
end_of false (part n) = if n == 0 then None else Some (Cut n)
end_of false (wrong fault) = Some fault
end_of false (whole n asked) = None

-- no whole request stands at the front, and the bytes end so
abbrev pub IsEnd : Bool → List ℕ → Option HttpFault → Type 0
IsEnd full bytes end = (found : Found) × IsFound bytes found × (is_whole found ≡ false) × (end ≡ end_of full found)

-- the requests are those at the front, one after the other; after one with `close` the rest counts as nothing
abbrev pub IsTalk : Bool → List ℕ → List Asked → Option HttpFault → Type 0
IsTalk full bytes [] end = IsEnd full bytes end
IsTalk full bytes (asked ∷ more) end =
    (n : ℕ) × IsFound bytes (whole n asked)
    × MatchBool asked.close ((more ≡ []) × (end ≡ None)) (IsTalk full (drop n bytes) more end)

-- the talk of all bytes of a session
abbrev pub IsSession : List ℕ → List Asked → Option HttpFault → Type 0
IsSession bytes requests end = IsTalk (nat_le session_limit (length bytes)) bytes requests end

-- the bytes begin with these requests; behind one with `close` there is none
abbrev pub IsFront : List ℕ → List Asked → Type 0
IsFront bytes [] = ⊤
IsFront bytes (asked ∷ more) = (n : ℕ) × IsFound bytes (whole n asked) × MatchBool asked.close (more ≡ []) (IsFront (drop n bytes) more)

-- the last of them has `close`
abbrev pub is_last : List Asked → Bool
is_last [] = false
is_last (asked ∷ []) = asked.close
is_last (asked ∷ more) = is_last more
