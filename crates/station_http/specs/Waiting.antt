-- Whether the next answer is there without the source.
use Rattle.std.specs.Prelude.{◌≡◌, ◌+◌, ◌<◌, ◌⊎◌, ◌||◌, ℕ, Bool, true, false, List, drop, length, nat_le, Result, Ok, Err, MatchBool, is_some}
use Rattle.station_http.specs.declared.fault.HttpFault.{HttpFault}
use Rattle.station_http.specs.declared.fault.HttpFault.TheVariants.{ReadFault, Memory}
use Rattle.station_http.specs.declared.stage.Stage.{Stage}
use Rattle.station_http.specs.declared.stage.Stage.TheVariants.{Open, Closed, Spent}
use Rattle.station_http.specs.Found.{Found, part, wrong, whole, IsFound}
use Rattle.station_http.specs.Gives.{is_full}
use Rattle.station_http.specs.Limits.{head_limit}
use Rattle.station_http.specs.Lines.{blank, head_end}
use Rattle.station_http.specs.Reading.{Reading}

-- a whole request or a fault
abbrev pub is_decided : Found → Bool
is_decided (part n) = false
is_decided (wrong fault) = true
is_decided (whole n asked) = true

-- the bytes at the front are a whole request or a fault, or they aren't
abbrev pub IsDecided : List ℕ → Bool → Type 0
IsDecided bytes decided = (found : Found) × IsFound bytes found × (decided ≡ is_decided found)

abbrev pub IsWaitingAt : Stage → Reading → Bool → Type 0
IsWaitingAt Open r waiting = MatchBool (is_full r.taken) (waiting ≡ true) (IsDecided r.pending waiting)
IsWaitingAt Closed r waiting = waiting ≡ true
IsWaitingAt Spent r waiting = waiting ≡ true

-- an open connection waits with a whole request, a fault or no byte more that it may take; any other one always
abbrev pub IsWaiting : Reading → Bool → Type 0
IsWaiting r waiting = IsWaitingAt r.stage r waiting

-- a head is there, or is too long
abbrev pub knows_head : List ℕ → Bool
knows_head request = is_some (head_end request) || nat_le head_limit (length request)

abbrev pub is_ready : Reading → Bool
is_ready r = is_full r.taken || knows_head (drop (blank r.pending) r.pending)

-- the answer is a failure of the source, or want of memory
abbrev pub is_outside : {T : Type 0} → Result T HttpFault → Bool
is_outside (Ok value) = false
is_outside (Err ReadFault) = true
is_outside (Err Memory) = true
is_outside (Err fault) = false

-- the source was called: bytes were taken, or it is at its end or failed; or memory was wanting
abbrev pub HasCalled : {T : Type 0} → Reading → Reading → Type 0 → Result T HttpFault → Type 0
HasCalled old new at_end result = (old.taken < new.taken) ⊎ (at_end ⊎ (is_outside result ≡ true))

-- more of the bytes that were taken belong to requests handed out
abbrev pub IsFurther : Reading → Reading → Type 0
IsFurther old new = old.taken + length new.pending < new.taken + length old.pending
