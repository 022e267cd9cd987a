-- Expiry dates as order files and deeds write them, and the date that is printed.
use Rattle.std.specs.Prelude.{◌==◌, ◌&&◌, ◌+◌, ◌-◌, ◌*◌, ◌/◌, ◌%◌, ℕ, Bool, List, [], ◌∷◌, Option, Some, None, pos, if◌then◌else◌, nat_le, slice_index, length}
use Rattle.jiff.specs.Words.{days_in_month}
use Rattle.std.specs.Char.{is_ascii_digit}
use Rattle.gs1_element.specs.Dates.{two_digits}

-- the calendar has this day, in the year 2000 + year
abbrev pub is_day : ℕ → ℕ → ℕ → Bool
is_day year month day =
    nat_le 1 month && (nat_le month 12 && (nat_le 1 day && nat_le day (days_in_month (pos (2000 + year)) month)))

abbrev pub are_digits : List ℕ → ℕ → Bool
are_digits text at = is_ascii_digit (slice_index text at) && is_ascii_digit (slice_index text (at + 1))

abbrev pub is_byte : List ℕ → ℕ → ℕ → Bool
is_byte text at byte = slice_index text at == byte

-- 20YY-MM-DD, a day of the calendar
abbrev pub is_date : List ℕ → Bool
is_date text =
    (is_byte text 0 50 && (is_byte text 1 48 && (is_byte text 4 45 && is_byte text 7 45)))
    && ((are_digits text 2 && (are_digits text 5 && are_digits text 8))
    && is_day (two_digits text 2) (two_digits text 5) (two_digits text 8))

-- 20YY-MM, a month of the calendar
abbrev pub is_month : List ℕ → Bool
is_month text =
    (is_byte text 0 50 && (is_byte text 1 48 && is_byte text 4 45))
    && ((are_digits text 2 && are_digits text 5)
    && is_day (two_digits text 2) (two_digits text 5) 1)

-- YYMMDD
abbrev pub digits_of_date : List ℕ → List ℕ
digits_of_date text = slice_index text 2 ∷ slice_index text 3 ∷ slice_index text 5 ∷ slice_index text 6 ∷ slice_index text 8 ∷ slice_index text 9 ∷ []

-- YYMM00: the last day of the month
abbrev pub digits_of_month : List ℕ → List ℕ
digits_of_month text = slice_index text 2 ∷ slice_index text 3 ∷ slice_index text 5 ∷ slice_index text 6 ∷ 48 ∷ 48 ∷ []

-- the six digits of a date of ten characters or of a month of seven, in a year of 2000 to 2099
unfoldable pub expiry_of : List ℕ → Option (List ℕ)
expiry_of text =
    if length text == 10 then (if is_date text then Some (digits_of_date text) else None)
    else (if length text == 7 then (if is_month text then Some (digits_of_month text) else None) else None)

-- the day that is printed: where it is 00, the last one that the calendar has in the month
abbrev pub day_to_print : List ℕ → ℕ
day_to_print expiry = if two_digits expiry 4 == 0 then days_in_month (pos (2000 + two_digits expiry 0)) (two_digits expiry 2) else two_digits expiry 4

-- a number below 100, in two digits
abbrev pub in_two_digits : ℕ → List ℕ
in_two_digits n = (48 + n / 10) ∷ (48 + n % 10) ∷ []

-- 20YY-MM-DD
unfoldable pub last_day_of : List ℕ → List ℕ
last_day_of expiry = 50 ∷ 48 ∷ slice_index expiry 0 ∷ slice_index expiry 1 ∷ 45 ∷ slice_index expiry 2 ∷ slice_index expiry 3 ∷ 45 ∷ in_two_digits (day_to_print expiry)
