-- How much is asked of a source.
use Rattle.std.specs.Prelude.{◌≡◌, ◌+◌, ◌-◌, ℕ, List, [], ◌∷◌, ◌++◌, length, drop, min, is_some, if◌then◌else◌}
use Rattle.outside.specs.Devices.{Ask}
use Rattle.station_http.specs.Limits.{head_limit, session_limit}
use Rattle.station_http.specs.Lines.{blank, head_end}

-- how many bytes of a request the buffer holds where more are asked for: all, as long as its head isn't whole, and
-- then none, since what came of the body has left it
abbrev pub held_of : List ℕ → ℕ
held_of request = if is_some (head_end request) then 0 else length request

-- all that may still be taken and that the buffer has room for
abbrev pub room_for : ℕ → List ℕ → ℕ
room_for taken known = min (session_limit - taken) (head_limit - held_of (drop (blank known) known))

-- each call asks for just that, by what came before it; in the end so many bytes are taken
abbrev pub AsksAll : ℕ → List ℕ → ℕ → List Ask → Type 0
AsksAll taken known end [] = end ≡ taken
AsksAll taken known end (ask ∷ more) = (ask.room ≡ room_for taken known) × AsksAll (taken + length ask.came) (known ++ ask.came) end more

-- the bytes that are known after these calls
abbrev pub known_after : List ℕ → List Ask → List ℕ
known_after known [] = known
known_after known (ask ∷ more) = known_after (known ++ ask.came) more

-- each call finds the buffer empty
abbrev pub AsksEmpty : ℕ → ℕ → List Ask → Type 0
AsksEmpty taken end [] = end ≡ taken
AsksEmpty taken end (ask ∷ more) = (ask.room ≡ min (session_limit - taken) head_limit) × AsksEmpty (taken + length ask.came) end more
