-- What one `next` answers.
use Rattle.std.specs.Prelude.{◌≡◌, ◌+◌, ℕ, Bool, true, false, List, [], ◌++◌, length, drop, nat_le, Option, Some, None, Result, Ok, Err, if◌then◌else◌, ⊤}
use Rattle.station_http.specs.declared.fault.HttpFault.{HttpFault}
use Rattle.station_http.specs.declared.fault.HttpFault.TheVariants.{Spent as SpentFault, ReadFault, Memory, Cut}
use Rattle.station_http.specs.declared.asked.Asked.{Asked}
use Rattle.station_http.specs.declared.stage.Stage.{Stage}
use Rattle.station_http.specs.declared.stage.Stage.TheVariants.{Open, Closed, Spent}
use Rattle.station_http.specs.Found.{part, whole, IsFound}
use Rattle.station_http.specs.Limits.{session_limit}
use Rattle.station_http.specs.Reading.{Reading}
use Rattle.station_http.specs.Talk.{IsEnd}

abbrev pub is_read_fault : {T : Type 0} → Result T HttpFault → Bool
is_read_fault (Ok value) = false
is_read_fault (Err ReadFault) = true
is_read_fault (Err fault) = false

-- the reader took all that it may
abbrev pub is_full : ℕ → Bool
is_full taken = nat_le session_limit taken

-- the source's end is known where a request is cut
abbrev pub EndsAt : Type 0 → HttpFault → Type 0
EndsAt at_end (Cut n) = at_end
EndsAt at_end fault = ⊤

-- the fault isn't that an earlier one was told
abbrev pub IsAlive : HttpFault → Type 0
IsAlive SpentFault = ⊥
IsAlive fault = ⊤

-- a fault: by the device, for want of memory, or as the bytes end
abbrev pub IsFault : List ℕ → ℕ → Type 0 → HttpFault → Type 0
IsFault known taken at_end ReadFault = (n : ℕ) × IsFound known (part n)
IsFault known taken at_end Memory = ⊤
IsFault known taken at_end SpentFault = ⊥
IsFault known taken at_end fault = IsEnd (is_full taken) known (Some fault) × EndsAt at_end fault

-- of an open connection, where known are the bytes that were pending and those that it took
abbrev pub Gives : List ℕ → Result (Option Asked) HttpFault → Reading → Type 0 → Type 0
Gives known (Ok (Some asked)) new at_end =
    (n : ℕ) × IsFound known (whole n asked) × (new.pending ≡ drop n known) × (new.stage ≡ (if asked.close then Closed else Open))
Gives known (Ok None) new at_end = IsEnd (is_full new.taken) known None × (new.pending ≡ []) × (new.stage ≡ Open) × at_end
Gives known (Err fault) new at_end = IsFault known new.taken at_end fault × (new.stage ≡ Spent)

-- a closed connection answers none, and a spent one that it is spent; both take nothing
abbrev pub GivesAt : Stage → Reading → List ℕ → Result (Option Asked) HttpFault → Reading → Type 0 → Type 0
GivesAt Open old bytes result new at_end = (new.taken ≡ old.taken + length bytes) × Gives (old.pending ++ bytes) result new at_end
GivesAt Closed old bytes result new at_end = (bytes ≡ []) × (result ≡ Ok None) × (new ≡ old)
GivesAt Spent old bytes result new at_end = (bytes ≡ []) × (result ≡ Err SpentFault) × (new ≡ old)
