-- What a request is answered, and the faults that are told by their names.
use Rattle.std.specs.Prelude.{◌≡◌, ◌⊎◌, ℕ, Bool, List, ◌++◌, Option, Some, None, codes}
use Rattle.station_http.specs.declared.kind.Kind.{Kind}
use Rattle.station_http.specs.declared.kind.Kind.TheVariants.{Json, Text}
use Rattle.station_http.specs.declared.fault.HttpFault.{HttpFault}
use Rattle.station_http.specs.declared.fault.HttpFault.TheVariants as http
use Rattle.station_http.specs.Answers.{answer_text}
use Rattle.site_answers.specs.declared.fault_name.FaultName.{FaultName}
use Rattle.site_answers.specs.declared.fault_name.FaultName.TheVariants.{UnknownBatch, UnknownItem, UnknownUnit, HeadTooLong, BadHead, ChunkedBody, NoLength, BodyTooLong, NoRoute, BadMethod, Memory}

-- an answer, but for whether it is the last
pub record Answer : Type 0 where
  pub status : ℕ
  pub kind : Kind
  pub body : List ℕ

-- its bytes on the wire (RFC 9112)
abbrev pub text_of : Answer → Bool → List ℕ
text_of answer last = answer_text answer.status answer.kind answer.body last

abbrev pub in_json : ℕ → List ℕ → Answer
in_json status body = record { status = status; kind = Json; body = body }

abbrev pub in_text : List ℕ → Answer
in_text body = record { status = 200; kind = Text; body = body }

-- ---- faults by their names

abbrev pub name_of : FaultName → List ℕ
name_of UnknownBatch = codes "UnknownBatch"
name_of UnknownItem = codes "UnknownItem"
name_of UnknownUnit = codes "UnknownUnit"
name_of HeadTooLong = codes "HeadTooLong"
name_of BadHead = codes "BadHead"
name_of ChunkedBody = codes "ChunkedBody"
name_of NoLength = codes "NoLength"
name_of BodyTooLong = codes "BodyTooLong"
name_of NoRoute = codes "NoRoute"
name_of BadMethod = codes "BadMethod"
name_of Memory = codes "Memory"

abbrev pub fault_text : FaultName → List ℕ
fault_text name = codes "{\"fault\":\"" ++ name_of name ++ codes "\",\"ok\":false}"

-- RFC 9110, section 15; 431 by RFC 6585, 507 by RFC 4918
abbrev pub status_of : FaultName → ℕ
status_of UnknownBatch = 404
status_of UnknownItem = 404
status_of UnknownUnit = 404
status_of HeadTooLong = 431
status_of BadHead = 400
status_of ChunkedBody = 501
status_of NoLength = 411
status_of BodyTooLong = 413
status_of NoRoute = 404
status_of BadMethod = 405
status_of Memory = 507

-- the answer of a fault
abbrev pub fixed : FaultName → Answer
fixed name = in_json (status_of name) (fault_text name)

-- the faults of a connection that are answered
abbrev pub refusal_of : HttpFault → Option FaultName
refusal_of http.HeadTooLong = Some HeadTooLong
refusal_of http.BadHead = Some BadHead
refusal_of http.ChunkedBody = Some ChunkedBody
refusal_of http.NoLength = Some NoLength
refusal_of http.BodyTooLong = Some BodyTooLong
refusal_of http.NoRoute = Some NoRoute
refusal_of http.BadMethod = Some BadMethod
refusal_of http.Memory = Some Memory
refusal_of fault = None

-- ---- what is due, and what is said

-- this answer, or without memory that of want of memory
abbrev pub IsSaid : Answer → Answer → Type 0
IsSaid answer said = (said ≡ answer) ⊎ (said ≡ fixed Memory)
