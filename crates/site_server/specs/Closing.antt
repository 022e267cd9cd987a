-- The end of a session by a fault.
use Rattle.std.specs.Prelude.{◌≡◌, ◌⊎◌, ℕ, Bool, true, false, List, [], Option, Some, None}
use Rattle.station_http.specs.declared.fault.HttpFault.{HttpFault}
use Rattle.station_http.specs.declared.fault.HttpFault.TheVariants as http
use Rattle.station_http.specs.Puts.{IsPart}
use Rattle.site_server.specs.declared.end.SessionEnd.{SessionEnd}
use Rattle.site_server.specs.declared.end.SessionEnd.TheVariants.{Cut, Refused, ReadFault, WriteFault, SessionLong, Memory}
use Rattle.site_answers.specs.declared.fault_name.FaultName.{FaultName}
use Rattle.site_answers.specs.declared.fault_name.FaultName.TheVariants as named
use Rattle.site_answers.specs.Saying.{refusal_of, status_of}
use Rattle.site_server.specs.Serving.{last_text}

abbrev pub is_spent : HttpFault → Bool
is_spent http.Spent = true
is_spent fault = false

-- a fault that isn't answered
abbrev pub is_quiet : HttpFault → Bool
is_quiet http.ReadFault = true
is_quiet http.SessionLong = true
is_quiet (http.Cut n) = true
is_quiet fault = false

abbrev pub quiet_end : HttpFault → SessionEnd
quiet_end http.ReadFault = ReadFault
quiet_end (http.Cut n) = Cut
quiet_end fault = SessionLong

abbrev pub end_with : FaultName → SessionEnd
end_with named.Memory = Memory
end_with name = Refused (status_of name)

-- the last answer was put whole, or in part
abbrev pub ClosesWith : FaultName → SessionEnd → List ℕ → Type 0
ClosesWith name end put = ((end ≡ WriteFault) × IsPart put (last_text name)) ⊎ ((end ≡ end_with name) × (put ≡ last_text name))

abbrev pub EndsWith : HttpFault → Option FaultName → SessionEnd → List ℕ → Type 0
EndsWith fault None end put = (is_quiet fault ≡ true) × (end ≡ quiet_end fault) × (put ≡ [])
EndsWith fault (Some name) end put = ClosesWith name end put

abbrev pub EndsBy : HttpFault → SessionEnd → List ℕ → Type 0
EndsBy fault end put = EndsWith fault (refusal_of fault) end put
