-- What stands at the front of the bytes.
use Rattle.std.specs.Prelude.{◌≡◌, ◌+◌, ℕ, List, length, take, drop, nat_le, nat_lt, Option, Some, None, Result, Ok, Err, if◌then◌else◌}
use Rattle.httparse.specs.Grammar.{RequestHead}
use Rattle.station_http.specs.declared.fault.HttpFault.{HttpFault}
use Rattle.station_http.specs.declared.fault.HttpFault.TheVariants.{HeadTooLong}
use Rattle.station_http.specs.declared.asked.Asked.{Asked}
use Rattle.http_routes.specs.declared.target.Target.{Target}
use Rattle.station_http.specs.declared.plan.Plan.{Plan}
use Rattle.station_http.specs.Limits.{head_limit}
use Rattle.station_http.specs.Lines.{blank, head_end}
use Rattle.station_http.specs.Head.{IsHead}
use Rattle.station_http.specs.Plans.{plan_of}

-- less than a request, of which so many bytes are there; a fault; or a whole request that ends after so many bytes
pub data Found : Type 0 where
  part : ℕ → Found
  wrong : HttpFault → Found
  whole : ℕ → Asked → Found

-- with the body
abbrev pub with_target : ℕ → ℕ → List ℕ → Plan → Result Target HttpFault → Found
with_target skipped n rest plan (Err fault) = wrong fault
with_target skipped n rest plan (Ok target) =
    whole (skipped + n + plan.body) (record { target = target; body = take plan.body rest; close = plan.close })

-- after a head of n bytes
abbrev pub with_plan : ℕ → ℕ → List ℕ → Result Plan HttpFault → Found
with_plan skipped n rest (Err fault) = wrong fault
with_plan skipped n rest (Ok plan) =
    if nat_lt (length rest) plan.body then part (n + length rest) else with_target skipped n rest plan plan.target

-- by the end of the head within its limit
abbrev pub IsFoundBy : ℕ → List ℕ → Option ℕ → Found → Type 0
IsFoundBy skipped request None found =
    found ≡ (if nat_le head_limit (length request) then wrong HeadTooLong else part (length request))
IsFoundBy skipped request (Some n) found =
    (head : Option RequestHead) × IsHead (take n request) head × (found ≡ with_plan skipped n (drop n request) (plan_of head))

-- what is found after the empty lines at the front
abbrev pub IsFound : List ℕ → Found → Type 0
IsFound bytes found = IsFoundBy (blank bytes) (drop (blank bytes) bytes) (head_end (take head_limit (drop (blank bytes) bytes))) found
