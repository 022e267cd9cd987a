-- What a scan says: its code, or the first fault over its units from the left.
use Rattle.std.specs.Prelude.{◌≡◌, ℕ, zero, suc, ◌+◌, ◌-◌, List, [], ◌∷◌, length, take, drop, Option, Some, None, Result, Ok, Err, if◌then◌else◌, ◌==◌, ◌||◌, nat_eq, nat_lt, codes}
use Rattle.std.specs.List.{starts_with}
use Rattle.gs1_keys.specs.Keys.{is_digit, is_in_set, first_other, gtin_of}
use Rattle.gs1_keys.specs.declared.fault.KeyFault.{KeyFault}
use Rattle.gs1_keys.specs.declared.fault.KeyFault.TheVariants as key
use Rattle.gs1_element.specs.declared.fault.ElementFault.{ElementFault}
use Rattle.gs1_element.specs.declared.fault.ElementFault.TheVariants.{Empty, Missing, Twice, BadValue, BadMonthOrDay}
use Rattle.gs1_element.specs.declared.found.Found.{Found}
use Rattle.gs1_element.specs.declared.code.Code.{Code}
use Rattle.gs1_element.specs.Dates.{date_fault}
use Rattle.gs1_element.specs.Units.{number_of, unit_length, after_unit, Piece, piece}

infixl 10 ◌>>=◌
abbrev pub ◌>>=◌ : {A B : Type 0} → Result A ElementFault → (A → Result B ElementFault) → Result B ElementFault
(Ok x) >>= f = f x
(Err e) >>= f = Err e

-- ---- the units

-- the units that can be cut, and the fault of the one that can't
abbrev pub Cuts : Type 0
Cuts = List Piece × Option ElementFault

abbrev pub and_then : Piece → Cuts → Cuts
and_then p cuts = (p ∷ cuts.0, cuts.1)

-- the next unit, if it can be cut, and what is cut after it
abbrev pub cut_by : Result ℕ ElementFault → (ℕ → Cuts) → (ℕ → Piece) → Cuts
cut_by (Err fault) others first = ([], Some fault)
cut_by (Ok n) others first = and_then (first n) (others n)

-- the units of the bytes that begin at a place, from the left and at most so many
unfoldable pub cuts : ℕ → ℕ → List ℕ → Cuts
cuts zero at bytes = ([], None)
cuts (suc k) at [] = ([], None)
cuts (suc k) at (b ∷ bs) = cut_by (unit_length at (b ∷ bs)) (λ n. cuts k (at + (length bs + 1 - length (after_unit n bs))) (after_unit n bs)) (λ n. piece at n (b ∷ bs))

-- ---- their values

-- a key, or the place of what is wrong in it; the check digit of a GTIN is its byte 13
abbrev pub key_value : List ℕ → ℕ → Result (List ℕ) KeyFault → Result (List ℕ) ElementFault
key_value name at (Ok x) = Ok x
key_value name at (Err (key.BadLength n)) = Err (BadValue name at)
key_value name at (Err (key.NotDigit k)) = Err (BadValue name (at + k))
key_value name at (Err (key.BadCheck due found)) = Err (BadValue name (at + 13))
key_value name at (Err (key.NotInSet k)) = Err (BadValue name (at + k))

abbrev pub or_past : Option ℕ → ℕ → Option ℕ
or_past (Some k) n = Some k
or_past None n = if nat_lt 20 n then Some 20 else None

-- the place of the first byte that isn't of the set or is the 21st; an empty text is wrong at 0
unfoldable pub text_fault : List ℕ → Option ℕ
text_fault value = if length value == 0 then Some 0 else or_past (first_other is_in_set 0 (take 20 value)) (length value)

-- the fault at this place, if there is one
abbrev pub unless : {X : Type 0} → Option ℕ → (ℕ → ElementFault) → Result X ElementFault → Result X ElementFault
unless (Some k) fault go = Err (fault k)
unless None fault go = go

-- a GTIN of 14 digits
unfoldable pub gtin_value : ℕ → List ℕ → Result (List ℕ) ElementFault
gtin_value at value = if length value == 14 then key_value (codes "01") at (gtin_of value) else Err (BadValue (codes "01") at)

-- a lot or a serial
unfoldable pub text_value : List ℕ → ℕ → List ℕ → Result (List ℕ) ElementFault
text_value name at value = unless (text_fault value) (λ k. BadValue name (at + k)) (Ok value)

-- an expiry: six digits that are a day
unfoldable pub date_value : ℕ → List ℕ → Result (List ℕ) ElementFault
date_value at value = if length value == 6 then unless (first_other is_digit 0 value) (λ k. BadValue (codes "17") (at + k)) (unless (date_fault value) (λ k. BadMonthOrDay (at + k)) (Ok value)) else Err (BadValue (codes "17") at)

-- a needed unit that came before is a fault, whatever its value
abbrev pub once : {X Y : Type 0} → Option X → List ℕ → Result Y ElementFault → Result Y ElementFault
once (Some x) name go = Err (Twice name)
once None name go = go

-- what was found, with one unit more
unfoldable pub put : Found → Piece → Result Found ElementFault
put f p =
    if number_of p.code == 1 then once f.gtin (codes "01") (gtin_value (p.at + 2) p.value >>= λ x. Ok (record f { gtin = Some x })) else
    (if number_of p.code == 10 then once f.lot (codes "10") (text_value (codes "10") (p.at + 2) p.value >>= λ x. Ok (record f { lot = Some x })) else
    (if number_of p.code == 17 then once f.expiry (codes "17") (date_value (p.at + 2) p.value >>= λ x. Ok (record f { expiry = Some x })) else
    (if number_of p.code == 21 then once f.serial (codes "21") (text_value (codes "21") (p.at + 2) p.value >>= λ x. Ok (record f { serial = Some x })) else Ok f)))

-- what was found is now what is due, or there was this fault
abbrev pub IsPut : Result (Unit {0}) ElementFault → Found → Result Found ElementFault → Type 0
IsPut (Ok x) now due = due ≡ Ok now
IsPut (Err e) now due = due ≡ Err e

-- what was found of a needed unit
abbrev pub need : {X : Type 0} → Option X → List ℕ → Result X ElementFault
need (Some x) name = Ok x
need None name = Err (Missing name)

-- the code of what was found, or the first needed unit that is missing
unfoldable pub complete : Found → Result Code ElementFault
complete f = do
  gtin ← need f.gtin (codes "01")
  lot ← need f.lot (codes "10")
  expiry ← need f.expiry (codes "17")
  serial ← need f.serial (codes "21")
  Ok (record { gtin = gtin; serial = serial; lot = lot; expiry = expiry })

-- the code of these units, or the first fault: of a unit, then of what can't be cut, then a missing one
unfoldable pub collected : List Piece → Option ElementFault → Found → Result Code ElementFault
collected [] (Some fault) f = Err fault
collected [] None f = complete f
collected (p ∷ ps) end f = put f p >>= λ g. collected ps end g

abbrev pub nothing : Found
nothing = record { gtin = None; serial = None; lot = None; expiry = None }

-- the code of the bytes that begin at a place, after what was found
abbrev pub from : ℕ → List ℕ → Found → Result Code ElementFault
from at bytes f = collected (cuts (length bytes) at bytes).0 (cuts (length bytes) at bytes).1 f

-- ---- the scan

-- how many bytes the scanner prefix has: ]d2, ]C1 or none
unfoldable pub prefix_length : List ℕ → ℕ
prefix_length scan =
    if starts_with nat_eq scan (codes "]d2") || starts_with nat_eq scan (codes "]C1") then 3 else 0

-- the code of a scan, or its first fault
unfoldable pub code_of : List ℕ → Result Code ElementFault
code_of scan = if length scan == prefix_length scan then Err Empty else from (prefix_length scan) (drop (prefix_length scan) scan) nothing
