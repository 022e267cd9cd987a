-- The digits of a date or a month are an expiry, and the month of an expiry is one of the calendar.
use Rattle.std.proofs.Common.{◌≡◌, ℕ, ◌+◌, ◌<◌, ◌≤◌, ◌%◌, Bool, true, false, List, [], ◌∷◌, length, None, arith, refl, sym, ap, ◌∙◌, subst, inl, inr}
use Rattle.std.specs.Prelude.{◌==◌, ◌||◌, ◌&&◌, is_none, ◌*◌, ◌-◌, if◌then◌else◌, nat_le, pos, slice_index}
use Rattle.std.specs.Char.{is_ascii_digit}
use Rattle.std.proofs.lemmas.Bool.{and_parts, cases_Bool, false≢true, le-leb}
use Rattle.std.proofs.lemmas.Bool.Decides.{nat_tests}
use Rattle.jiff.specs.Words.{is_leap_year, days_in_month}
use Rattle.gs1_keys.specs.Keys.{is_between, is_digit, first_other}
use Rattle.gs1_element.specs.Dates.{two_digits, days_in, date_fault, is_expiry}
use Rattle.site_files.specs.Dates.{is_date, is_month, digits_of_date, digits_of_month}

-- the years 2000 to 2099 that four divides are leap years
leap_years : (year : ℕ) → year < 100 → is_leap_year (pos (2000 + year)) ≡ (year % 4 == 0)
leap_years year lt = grind (arith, nat_tests)

months : (leap four six nine eleven two : Bool) → ◌≡◌ {A = ℕ} (if two then (if leap then 29 else 28) else (if four || six || nine || eleven then 30 else 31)) (if two then (if leap then 29 else 28) else (if four then 30 else (if six then 30 else (if nine then 30 else (if eleven then 30 else 31)))))
months leap four six nine eleven true = refl
months leap true six nine eleven false = refl
months leap false true nine eleven false = refl
months leap false false true eleven false = refl
months leap false false false true false = refl
months leap false false false false false = refl

days_are : (year month : ℕ) → year < 100 → days_in_month (pos (2000 + year)) month ≡ days_in year month
days_are year month lt =
    ap (λ (leap : Bool). if month == 2 then (if leap then 29 else 28) else (if (month == 4) || (month == 6) || (month == 9) || (month == 11) then 30 else 31)) (leap_years year lt)
    ∙ months (year % 4 == 0) (month == 4) (month == 6) (month == 9) (month == 11) (month == 2)

two_small : (a b : ℕ) → is_ascii_digit a ≡ true → is_ascii_digit b ≡ true → (a - 48) * 10 + (b - 48) < 100
two_small a b e f = grind (arith, nat_tests)

digits_alone : (a b c d e f : ℕ) → is_digit a ≡ true → is_digit b ≡ true → is_digit c ≡ true → is_digit d ≡ true → is_digit e ≡ true → is_digit f ≡ true → first_other is_digit 0 (a ∷ b ∷ c ∷ d ∷ e ∷ f ∷ []) ≡ None
digits_alone a b c d e f p q r s t u = rw (p, q, r, s, t, u) refl

pub date_is_expiry : (text : List ℕ) → is_date text ≡ true → is_expiry (digits_of_date text) ≡ true
unfolding is_expiry date_fault
date_is_expiry text e =
    let p = (and_parts _ _ e).1 in
    let q = and_parts _ _ p in
    let digits = and_parts _ _ q.0 in
    let year = and_parts _ _ digits.0 in
    let later = and_parts _ _ digits.1 in
    let month = and_parts _ _ later.0 in
    let day = and_parts _ _ later.1 in
    let from = and_parts _ _ q.1 in
    let to = and_parts _ _ from.1 in
    let last = (and_parts _ _ to.1).1 in
    let small : two_digits text 2 < 100 = two_small (slice_index text 2) (slice_index text 3) year.0 year.1 in
    let within : nat_le (two_digits text 8) (days_in (two_digits text 2) (two_digits text 5)) ≡ true = subst (λ n. nat_le (two_digits text 8) n ≡ true) (days_are (two_digits text 2) (two_digits text 5) small) last in
    let low : nat_le 1 (two_digits text 5) ≡ true = from.0 in
    let high : nat_le (two_digits text 5) 12 ≡ true = to.0 in
    let alone = digits_alone (slice_index text 2) (slice_index text 3) (slice_index text 5) (slice_index text 6) (slice_index text 8) (slice_index text 9) year.0 year.1 month.0 month.1 day.0 day.1 in
    rw (alone, low, high, within) refl

pub month_is_expiry : (text : List ℕ) → is_month text ≡ true → is_expiry (digits_of_month text) ≡ true
unfolding is_expiry date_fault
month_is_expiry text e =
    let p = (and_parts _ _ e).1 in
    let q = and_parts _ _ p in
    let digits = and_parts _ _ q.0 in
    let year = and_parts _ _ digits.0 in
    let month = and_parts _ _ digits.1 in
    let from = and_parts _ _ q.1 in
    let to = and_parts _ _ from.1 in
    let low : nat_le 1 (two_digits text 5) ≡ true = from.0 in
    let high : nat_le (two_digits text 5) 12 ≡ true = to.0 in
    let alone = digits_alone (slice_index text 2) (slice_index text 3) (slice_index text 5) (slice_index text 6) 48 48 year.0 year.1 month.0 month.1 refl refl in
    let some : nat_le 0 (days_in (two_digits text 2) (two_digits text 5)) ≡ true = le-leb 0 (days_in (two_digits text 2) (two_digits text 5)) (omega arith) in
    rw (alone, low, high, some) refl

-- the parts of an expiry
no_fault : (text : List ℕ) → is_expiry text ≡ true → is_none (date_fault text) ≡ true
unfolding is_expiry
no_fault text e = (and_parts ((length text == 6) && is_none (first_other is_digit 0 text)) (is_none (date_fault text)) e).1

month_of : (text : List ℕ) → is_expiry text ≡ true → is_between 1 12 (two_digits text 2) ≡ true
unfolding date_fault
month_of text e = elim (cases_Bool (is_between 1 12 (two_digits text 2))) [
  | inl within ↦ within
  | inr out ↦ absurd (let wrong = no_fault text e in false≢true (rw out at wrong))
]

pub month_from : (text : List ℕ) → is_expiry text ≡ true → 1 ≤ two_digits text 2
month_from text e = let parts = and_parts (nat_le 1 (two_digits text 2)) (nat_le (two_digits text 2) 12) (month_of text e) in grind (arith, nat_tests, parts)

pub month_to : (text : List ℕ) → is_expiry text ≡ true → two_digits text 2 ≤ 12
month_to text e = let parts = and_parts (nat_le 1 (two_digits text 2)) (nat_le (two_digits text 2) 12) (month_of text e) in grind (arith, nat_tests, parts)

days_few : (leap two four six nine eleven : Bool) → (if two then (if leap then 29 else 28) else (if four then 30 else (if six then 30 else (if nine then 30 else (if eleven then 30 else 31))))) < 100
days_few true true four six nine eleven = omega arith
days_few false true four six nine eleven = omega arith
days_few leap false true six nine eleven = omega arith
days_few leap false false true nine eleven = omega arith
days_few leap false false false true eleven = omega arith
days_few leap false false false false true = omega arith
days_few leap false false false false false = omega arith

pub day_small : (text : List ℕ) → is_expiry text ≡ true → two_digits text 4 < 100
unfolding date_fault
day_small text e =
    let few : days_in (two_digits text 0) (two_digits text 2) < 100 = days_few (two_digits text 0 % 4 == 0) (two_digits text 2 == 2) (two_digits text 2 == 4) (two_digits text 2 == 6) (two_digits text 2 == 9) (two_digits text 2 == 11) in
    elim (cases_Bool (nat_le (two_digits text 4) (days_in (two_digits text 0) (two_digits text 2)))) [
      | inl within ↦ let le : two_digits text 4 ≤ days_in (two_digits text 0) (two_digits text 2) = grind (arith, nat_tests) in omega (arith, le, few)
      | inr out ↦ absurd (let wrong = no_fault text e in false≢true (rw (month_of text e, out) at wrong))
    ]
