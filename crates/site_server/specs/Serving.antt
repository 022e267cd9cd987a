-- A session with a link.
use Rattle.std.specs.Prelude.{◌≡◌, ◌⊎◌, ◌≤◌, ◌+◌, ℕ, Bool, true, false, List, [], ◌∷◌, ◌++◌, length, map, Option, Some, None}
use Rattle.std.specs.List.{concat}
use Rattle.std.specs.Io.KnownBytes.{Consumes, Appends, IsAtEnd}
use Rattle.outside.specs.Doors.{Wire}
use Rattle.outside.specs.Causes.{HasCauseIf}
use Rattle.turn_desk.specs.declared.view.Noted.{Noted}
use Rattle.turn_desk.specs.declared.view.Origin.{Origin}
use Rattle.station_http.specs.declared.asked.Asked.{Asked}
use Rattle.station_http.specs.declared.fault.HttpFault.{HttpFault}
use Rattle.station_http.specs.declared.fault.HttpFault.TheVariants as http
use Rattle.station_http.specs.Talk.{IsSession, IsFront, is_last}
use Rattle.station_http.specs.Limits.{session_limit}
use Rattle.station_http.specs.Puts.{IsPart}
use Rattle.site_server.specs.declared.end.SessionEnd.{SessionEnd}
use Rattle.site_server.specs.declared.end.SessionEnd.TheVariants.{Ended, Cut, Refused, ReadFault, WriteFault, SessionLong, Memory}
use Rattle.site_answers.specs.declared.fault_name.FaultName.{FaultName}
use Rattle.site_answers.specs.declared.fault_name.FaultName.TheVariants as named
use Rattle.site_answers.specs.Saying.{text_of, fixed, refusal_of, status_of}
use Rattle.site_server.specs.Exchanges.{Exchange, AreGiven, asks_of, text_in}

abbrev pub is_read_fault : SessionEnd → Bool
is_read_fault ReadFault = true
is_read_fault end = false

abbrev pub is_write_fault : SessionEnd → Bool
is_write_fault WriteFault = true
is_write_fault end = false

-- the texts were put one after the other; where a put failed, those in front whole, and of the last one a front that isn't all of it
abbrev pub IsPut : Bool → List (List ℕ) → List ℕ → Type 0
IsPut false texts put = put ≡ concat texts
IsPut true texts put = (whole : List (List ℕ)) × (last : List ℕ) × (part : List ℕ) × (texts ≡ whole ++ last ∷ []) × (put ≡ concat whole ++ part) × IsPart part last

-- the last answer, of a fault
abbrev pub last_text : FaultName → List ℕ
last_text name = text_of (fixed name) true

-- the fault that is answered after these requests: that of the bytes, or want of memory
abbrev pub IsFaultOf : List ℕ → List Asked → FaultName → Type 0
IsFaultOf taken requests name = ((fault : HttpFault) × IsSession taken requests (Some fault) × (refusal_of fault ≡ Some name)) ⊎ ((name ≡ named.Memory) × IsFront taken requests)

-- By the end: which of the requests in the bytes taken were answered, what is left in the link, and the fault that was answered behind them.
abbrev pub EndsAs : SessionEnd → List ℕ → List Asked → Option (List ℕ) → List (List ℕ) → Type 0
EndsAs Ended taken requests left closing = IsSession taken requests None × (IsAtEnd left ⊎ is_last requests ≡ true) × (closing ≡ [])
EndsAs Cut taken requests left closing = (n : ℕ) × IsSession taken requests (Some (http.Cut n)) × IsAtEnd left × (closing ≡ [])
EndsAs (Refused status) taken requests left closing = (fault : HttpFault) × (name : FaultName) × IsSession taken requests (Some fault) × (refusal_of fault ≡ Some name) × (status ≡ status_of name) × (closing ≡ last_text name ∷ [])
EndsAs ReadFault taken requests left closing = (rest : Option HttpFault) × IsSession taken requests rest × (closing ≡ [])
EndsAs SessionLong taken requests left closing = IsSession taken requests (Some http.SessionLong) × (closing ≡ [])
EndsAs Memory taken requests left closing = IsFront taken requests × (closing ≡ last_text named.Memory ∷ [])
EndsAs WriteFault taken requests left closing = IsFront taken requests × ((closing ≡ []) ⊎ ((name : FaultName) × IsFaultOf taken requests name × (closing ≡ last_text name ∷ [])))

-- One session: the link before and after, and what the pass had seen before and has seen after.
pub record IsServed (origin : Origin) (worker : ℕ) (before after : Wire) (seen seen' : List Noted) (end : SessionEnd) : Type 0 where
  pub taken : List ℕ
  pub put : List ℕ
  pub exchanges : List Exchange
  pub closing : List (List ℕ)
  pub from : Consumes before.left after.left taken
  pub to : Appends before.put after.put put
  pub within : length taken ≤ session_limit
  -- the answers of the requests, in their order, and of the fault
  pub answers : IsPut (is_write_fault end) (map text_in exchanges ++ closing) put
  -- each at its point of the seen list
  pub given : AreGiven origin worker seen exchanges seen'
  pub ends : EndsAs end taken (asks_of exchanges) after.left closing
  pub few : length (asks_of exchanges) ≤ length taken
  pub reads : HasCauseIf (is_read_fault end) before.read_faults after.read_faults
  pub writes : HasCauseIf (is_write_fault end) before.write_faults after.write_faults

-- The turns that a session takes are no more than the requests that the bytes taken begin with.
pub record TakesTurns (left left' : Option (List ℕ)) (turns turns' : ℕ) : Type 0 where
  pub taken : List ℕ
  pub requests : List Asked
  pub from : Consumes left left' taken
  pub are : IsFront taken requests
  pub few : turns' ≤ turns + length requests
