-- What a head asks for.
use Rattle.std.specs.Prelude.{◌==◌, ◌&&◌, ◌||◌, ℕ, Bool, true, false, List, [], ◌∷◌, length, map, nat_lt, Option, Some, None, Result, Ok, Err, if◌then◌else◌, codes, bytes_eq}
use Rattle.std.specs.List.{list_any, list_all, slice_split}
use Rattle.std.specs.Str.{str_eq_ignore_ascii_case}
use Rattle.httparse.specs.Grammar.{RequestHead, trim_ows}
use Rattle.httparse.specs.Spans.{name_and_value}
use Rattle.station_http.specs.declared.fault.HttpFault.{HttpFault}
use Rattle.station_http.specs.declared.fault.HttpFault.TheVariants.{BadHead, ChunkedBody, NoLength, BodyTooLong}
use Rattle.station_http.specs.declared.fields.BodyLength.{BodyLength}
use Rattle.station_http.specs.declared.fields.BodyLength.TheVariants.{Absent, Bad, Said}
use Rattle.station_http.specs.declared.plan.Plan.{Plan}
use Rattle.station_http.specs.Limits.{body_limit}
use Rattle.numerals.specs.Numbers.{number_in}
use Rattle.station_http.specs.Targets.{target_of}

-- a field: its name, and its value without the white space around it
abbrev pub FieldText : Type 0
FieldText = List ℕ × List ℕ

-- in any letter case
abbrev pub has_name : List ℕ → FieldText → Bool
has_name name field = str_eq_ignore_ascii_case field.0 name

abbrev pub values_of : List ℕ → List FieldText → List (List ℕ)
values_of name [] = []
values_of name (field ∷ more) = if has_name name field then field.1 ∷ values_of name more else values_of name more

abbrev pub is_that : ℕ → Option ℕ → Bool
is_that n None = false
is_that n (Some m) = m == n

-- the value is 1 to 10 digits, and the number n
abbrev pub says : ℕ → List ℕ → Bool
says n value = is_that n (number_in 10 value)

-- one length, said once or several times
abbrev pub length_by : Option ℕ → List (List ℕ) → BodyLength
length_by None more = Bad
length_by (Some n) more = if list_all (says n) more then Said n else Bad

abbrev pub length_of : List (List ℕ) → BodyLength
length_of [] = Absent
length_of (value ∷ more) = length_by (number_in 10 value) more

-- a word between commas is `close`, in any case, the spaces and tabs around it left off
abbrev pub is_close : List ℕ → Bool
is_close word = str_eq_ignore_ascii_case (trim_ows word) (codes "close")

abbrev pub has_close : List ℕ → Bool
has_close value = list_any is_close (slice_split (λ b. b == 44) value)

-- a `connection` field with `close` among its words
abbrev pub is_last : FieldText → Bool
is_last field = has_name (codes "connection") field && has_close field.1

-- the answer is the last: for HTTP/1.0, or by such a field
abbrev pub closes : ℕ → List FieldText → Bool
closes minor fields = (minor == 0) || list_any is_last fields

abbrev pub is_bad : BodyLength → Bool
is_bad Bad = true
is_bad Absent = false
is_bad (Said n) = false

-- how long the body is: only a POST has to say it
abbrev pub body_of : List ℕ → BodyLength → Result ℕ HttpFault
body_of method Bad = Err BadHead
body_of method Absent = if bytes_eq method (codes "POST") then Err NoLength else Ok 0
body_of method (Said n) = if nat_lt body_limit n then Err BodyTooLong else Ok n

abbrev pub with_body : List ℕ → List ℕ → ℕ → List FieldText → Result ℕ HttpFault → Result Plan HttpFault
with_body method target minor fields (Err fault) = Err fault
with_body method target minor fields (Ok n) = Ok (record { body = n; close = closes minor fields; target = target_of method target })

-- in the order of the faults
abbrev pub plan_by : List ℕ → List ℕ → ℕ → List FieldText → BodyLength → Result Plan HttpFault
plan_by method target minor fields length =
    if is_bad length then Err BadHead else (
    if list_any (has_name (codes "transfer-encoding")) fields then Err ChunkedBody else
    with_body method target minor fields (body_of method length))

abbrev pub planned : List ℕ → List ℕ → ℕ → List FieldText → Result Plan HttpFault
planned method target minor fields = plan_by method target minor fields (length_of (values_of (codes "content-length") fields))

abbrev pub plan_of : Option RequestHead → Result Plan HttpFault
plan_of None = Err BadHead
plan_of (Some h) = planned h.method h.target h.minor (map name_and_value h.fields)
