-- A day of an expiry is a number of two digits.
use Rattle.std.proofs.Common.{◌≡◌, ℕ, ◌<◌, ◌+◌, ◌-◌, ◌*◌, ◌%◌, suc, zero, Bool, true, false, List, [], ◌∷◌, length, Option, Some, None, refl, arith, lit<, cond}
use Rattle.std.specs.Prelude.{◌==◌, if◌then◌else◌, slice_index, is_none, ◌&&◌}
use Rattle.std.proofs.lemmas.Bool.{and_parts, eqb-true}
use Rattle.std.proofs.lemmas.Bool.Decides.{nat_tests}
use Rattle.gs1_keys.specs.Keys.{is_digit, first_other}
use Rattle.gs1_element.specs.Dates.{two_digits, days_in, is_expiry, date_fault}
use Rattle.batch_report.specs.Texts.{day_meant}

passes : (b : Bool) (rest : Option ℕ) (at : ℕ) → cond b rest (Some at) ≡ None → (b ≡ true) × (rest ≡ None)
passes true rest at none = (refl, none)
passes false rest at none = absurd cc

-- each of the six is a digit
at_each : (at i : ℕ) (xs : List ℕ) → first_other is_digit at xs ≡ None → i < length xs → is_digit (slice_index xs i) ≡ true
at_each at i [] none h = absurd (omega (arith, h))
at_each at zero (x ∷ xs) none h = (passes (is_digit x) (first_other is_digit (at + 1) xs) at none).0
at_each at (suc i) (x ∷ xs) none h = at_each (at + 1) i xs (passes (is_digit x) (first_other is_digit (at + 1) xs) at none).1 (omega (arith, h))

digits_of_expiry : (expiry : List ℕ) → is_expiry expiry ≡ true → (i : ℕ) → i < 6 → is_digit (slice_index expiry i) ≡ true
unfolding is_expiry
digits_of_expiry expiry e i h =
    let p = and_parts ((length expiry == 6) && is_none (first_other is_digit 0 expiry)) (is_none (date_fault expiry)) e in
    let q = and_parts (length expiry == 6) (is_none (first_other is_digit 0 expiry)) p.0 in
    let long : length expiry ≡ 6 = eqb-true (length expiry) 6 q.0 in
    at_each 0 i expiry (nothing (first_other is_digit 0 expiry) q.1) (omega arith)
  where
    nothing : (o : Option ℕ) → is_none o ≡ true → o ≡ None
    nothing None e = refl
    nothing (Some n) e = absurd cc

two_digits_small : (a b : ℕ) → is_digit a ≡ true → is_digit b ≡ true → (a - 48) * 10 + (b - 48) < 100
two_digits_small a b x y = grind (arith, nat_tests)

days_small : (year month : ℕ) → days_in year month < 100
days_small year month =
    small (month == 2) _ _ (small (year % 4 == 0) 29 28 (lit< tt) (lit< tt)) (small (month == 4) 30 _ (lit< tt) (small (month == 6) 30 _ (lit< tt) (small (month == 9) 30 _ (lit< tt) (small (month == 11) 30 31 (lit< tt) (lit< tt)))))
  where
    small : (b : Bool) (m n : ℕ) → m < 100 → n < 100 → (if b then m else n) < 100
    small true m n x y = x
    small false m n x y = y

pub small_day : (expiry : List ℕ) → is_expiry expiry ≡ true → day_meant expiry < 100
unfolding day_meant
small_day expiry e =
    let digits = digits_of_expiry expiry e in
    choose (two_digits expiry 4 == 0) _ _ (days_small (two_digits expiry 0) (two_digits expiry 2)) (two_digits_small (slice_index expiry 4) (slice_index expiry 5) (digits 4 (lit< tt)) (digits 5 (lit< tt)))
  where
    choose : (b : Bool) (m n : ℕ) → m < 100 → n < 100 → (if b then m else n) < 100
    choose true m n x y = x
    choose false m n x y = y
