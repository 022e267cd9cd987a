-- What the bytes at the front are.
use Rattle.std.proofs.Common.{◌≡◌, ◌+◌, ◌-◌, ◌<◌, ◌≤◌, ℕ, Bool, true, false, List, length, drop, take, Option, Some, None, Result, Ok, Err, sym, refl, ap, ◌∙◌, subst, arith, nat_le, nat_lt, MatchBool, if◌then◌else◌}
use Rattle.std.proofs.lemmas.List.{length-drop, take_all}
use Rattle.httparse.specs.Grammar.{RequestHead}
use Rattle.station_http.specs.declared.fault.HttpFault.{HttpFault}
use Rattle.station_http.specs.declared.fault.HttpFault.TheVariants.{HeadTooLong}
use Rattle.station_http.specs.declared.plan.Plan.{Plan}
use Rattle.http_routes.specs.declared.target.Target.{Target}
use Rattle.station_http.specs.Limits.{head_limit, session_limit}
use Rattle.station_http.specs.Lines.{blank, head_end}
use Rattle.station_http.specs.Head.{IsHead}
use Rattle.station_http.specs.Plans.{plan_of}
use Rattle.station_http.specs.Found.{Found, part, wrong, with_plan, with_target, IsFoundBy, IsFound}
use Rattle.station_http.specs.declared.stage.Stage.{Stage}
use Rattle.station_http.specs.declared.stage.Stage.TheVariants.{Open}
use Rattle.station_http.specs.Reading.{Reading}
use Rattle.station_http.specs.Waiting.{is_decided, IsDecided, IsWaitingAt, IsWaiting}
use Rattle.station_http.proofs.Findings.{skip_found, head_within}
use Rattle.station_http.proofs.Ends.{full_not}
use Rattle.station_http.proofs.Going.{skips_blank, after_blank}

short_request : (bytes : List ℕ) → length bytes ≤ head_limit → length (drop (blank bytes) bytes) ≤ head_limit
short_request bytes fits = omega (arith, fits, length-drop (blank bytes) bytes)

found_behind : (bytes : List ℕ) (end : Option ℕ) (found : Found) → length bytes ≤ head_limit → head_end (drop (blank bytes) bytes) ≡ end
    → IsFoundBy (length (skips_blank bytes).0.front) (drop (blank bytes) bytes) end found → IsFound bytes found
found_behind bytes end found fits e f =
    skip_found bytes (drop (blank bytes) bytes) (skips_blank bytes).0 end found (after_blank bytes) (ap head_end (take_all head_limit (drop (blank bytes) bytes) (short_request bytes fits)) ∙ e) f

long_or_part : (b : Bool) (k : ℕ) → b ≡ is_decided (if b then wrong HeadTooLong else part k)
long_or_part true k = refl
long_or_part false k = refl

-- without a whole head
pub none_decided : (bytes : List ℕ) → length bytes ≤ head_limit → head_end (drop (blank bytes) bytes) ≡ None → IsDecided bytes (nat_le head_limit (length (drop (blank bytes) bytes)))
none_decided bytes fits e =
    let k = length (drop (blank bytes) bytes) in
    (if nat_le head_limit k then wrong HeadTooLong else part k, found_behind bytes None (if nat_le head_limit k then wrong HeadTooLong else part k) fits e refl, long_or_part (nat_le head_limit k) k)

-- with a fault in the head
pub fault_decided : (bytes : List ℕ) (n : ℕ) (fault : HttpFault) → length bytes ≤ head_limit → head_end (drop (blank bytes) bytes) ≡ Some n
    → (h : Option RequestHead) × IsHead (take n (drop (blank bytes) bytes)) h × (Err fault ≡ plan_of h) → IsDecided bytes true
fault_decided bytes n fault fits e p =
    let skipped = length (skips_blank bytes).0.front in
    (wrong fault, found_behind bytes (Some n) (wrong fault) fits e (p.0, p.1, ap (with_plan skipped n (drop n (drop (blank bytes) bytes))) p.2), refl)

target_decided : (skipped n : ℕ) (rest : List ℕ) (plan : Plan) (target : Result Target HttpFault) → is_decided (with_target skipped n rest plan target) ≡ true
target_decided skipped n rest plan (Ok target) = refl
target_decided skipped n rest plan (Err fault) = refl

body_decided : (skipped n : ℕ) (rest : List ℕ) (plan : Plan) (t : Bool) → nat_lt (length rest) plan.body ≡ t
    → nat_le plan.body (length rest) ≡ is_decided (if t then part (n + length rest) else with_target skipped n rest plan plan.target)
body_decided skipped n rest plan true h = no_room (length rest) plan.body h
  where
    no_room : (k m : ℕ) → nat_lt k m ≡ true → nat_le m k ≡ false
    no_room k m h = grind arith
body_decided skipped n rest plan false h = fits (length rest) plan.body h ∙ sym (target_decided skipped n rest plan plan.target)
  where
    fits : (k m : ℕ) → nat_lt k m ≡ false → nat_le m k ≡ true
    fits k m h = grind arith

-- with a plan, by the body
pub plan_decided : (bytes : List ℕ) (n : ℕ) (plan : Plan) → length bytes ≤ head_limit → head_end (drop (blank bytes) bytes) ≡ Some n
    → (h : Option RequestHead) × IsHead (take n (drop (blank bytes) bytes)) h × (Ok plan ≡ plan_of h) → IsDecided bytes (nat_le plan.body (length (drop (blank bytes) bytes) - n))
plan_decided bytes n plan fits e p =
    let request = drop (blank bytes) bytes in
    let skipped = length (skips_blank bytes).0.front in
    let found = with_plan skipped n (drop n request) (Ok plan) in (
      found,
      found_behind bytes (Some n) found fits e (p.0, p.1, ap (with_plan skipped n (drop n request)) p.2),
      ap (nat_le plan.body) (sym (length-drop n request)) ∙ body_decided skipped n (drop n request) plan (nat_lt (length (drop n request)) plan.body) refl,
    )

-- a head is within the bytes
pub head_fits : (bytes : List ℕ) (n : ℕ) → head_end bytes ≡ Some n → n ≤ length bytes
head_fits bytes n e = (head_within bytes n e).1

-- an open connection that may take more waits by what is pending
pub open_waiting : (r : Reading) (waiting : Bool) → r.stage ≡ Open → r.taken < session_limit → IsDecided r.pending waiting → IsWaiting r waiting
open_waiting r waiting stage below decided =
    subst (λ (s : Stage). IsWaitingAt s r waiting) (sym stage) (subst (λ (b : Bool). MatchBool b (waiting ≡ true) (IsDecided r.pending waiting)) (sym (full_not r.taken below)) decided)
