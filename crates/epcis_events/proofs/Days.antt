use Rattle.std.proofs.Common.{◌≡◌, ◌∙◌, ◌<◌, ◌≤◌, ◌+◌, ℕ, zero, suc, pos, refl, ap, sym, arith, ◌+ℤ◌, ◌≢◌, inl, inr, add-one}
use Rattle.std.proofs.lemmas.Bool.Decides.{leb_tells}
use Rattle.jiff_core.specs.Calendar.{days_from_civil}
use Rattle.jiff_core.proofs.CalendarLemmas.{days_in_month_bounds, day_count-epoch}
use Rattle.jiff_core.specs.declared.civil.date.Date.{Date}
use Rattle.jiff.specs.Words.{days_in_month, epoch_day, IsYmd}
use Rattle.jiff.proofs.SpanFacts.{signed_arith}
use Rattle.jiff.proofs.Family.{epoch_day_injective, days_from_civil-day, days_from_civil-next_month, days_from_civil-next_year}
use Rattle.jiff_core.proofs.DateLemmas.{days_from_civil-max}
use Rattle.epcis_events.specs.Moment.{Day, day_after, next_day}

-- the day is in the calendar, and has this number
pub record IsDayNumber (d : Day) (n : ℕ) : Type 0 where
  pub low : 1970 ≤ d.year
  pub high : d.year ≤ 9999
  pub month : (1 ≤ d.month) × (d.month ≤ 12)
  pub day : (1 ≤ d.day) × (d.day ≤ days_in_month (pos d.year) d.month)
  pub number : days_from_civil (pos d.year) d.month d.day ≡ pos n

first_number : days_from_civil (pos 1970) 1 1 ≡ pos 0
unfolding days_from_civil
first_number = rw day_count-epoch refl

-- the day as a date of `jiff`
date_of : (d : Day) (n : ℕ) → IsDayNumber d n → Date
date_of d n h = record {
  year = pos d.year;
  month = d.month;
  day = d.day;
  year_in = (omega (arith, signed_arith, h.low), omega (arith, signed_arith, h.high));
  month_in = h.month;
  day_in = h.day;
}

-- the day after is in the calendar too
same_month : (d : Day) (n : ℕ) → IsDayNumber d n → d.day < days_in_month (pos d.year) d.month → IsDayNumber (record d { day = d.day + 1 }) (n + 1)
same_month d n h more =
    let move = days_from_civil-day (pos d.year) d.month d.day (d.day + 1) h.day.0 (omega arith) in
    record { low = h.low; high = h.high; month = h.month; day = (omega arith, omega (arith, more)); number = omega (arith, signed_arith, move, h.number) }

next_month : (d : Day) (n : ℕ) → IsDayNumber d n → days_in_month (pos d.year) d.month ≤ d.day → d.month < 12
    → IsDayNumber (record { year = d.year; month = d.month + 1; day = 1 }) (n + 1)
next_month d n h end more =
    let last : d.day ≡ days_in_month (pos d.year) d.month = omega (arith, h.day.1, end) in
    let move = days_from_civil-next_month (pos d.year) d.month d.day h.month.0 last in
    let bound = days_in_month_bounds (pos d.year) (d.month + 1) in
    record { low = h.low; high = h.high; month = (omega arith, omega (arith, more)); day = (omega arith, omega (arith, bound.1)); number = move ∙ ap (λ z. z +ℤ pos 1) h.number ∙ omega (arith, signed_arith) }

next_year : (d : Day) (n : ℕ) → n < 2_932_896 → IsDayNumber d n → days_in_month (pos d.year) d.month ≤ d.day → 12 ≤ d.month
    → IsDayNumber (record { year = d.year + 1; month = 1; day = 1 }) (n + 1)
next_year d n room h end more =
    let december : d.month ≡ 12 = omega (arith, h.month.1, more) in
    let long : days_in_month (pos d.year) d.month ≡ 31 = rw december refl in
    let last : d.day ≡ 31 = omega (arith, h.day.1, end, long) in
    let at_end : days_from_civil (pos d.year) 12 31 ≡ pos n = rw (december, last) at h.number in
    let not_max : d.year ≢ 9999 = λ e. let max : days_from_civil (pos 9999) 12 31 ≡ pos n = rw e at at_end in omega (arith, signed_arith, days_from_civil-max, max, room) in
    let move = days_from_civil-next_year (pos d.year) (pos (d.year + 1)) (omega (arith, signed_arith)) (omega (arith, signed_arith)) in
    let bound = days_in_month_bounds (pos (d.year + 1)) 1 in
    record { low = omega (arith, h.low); high = omega (arith, h.high, not_max); month = (omega arith, omega arith); day = (omega arith, omega (arith, bound.1)); number = move ∙ ap (λ z. z +ℤ pos 1) at_end ∙ omega (arith, signed_arith) }

next_number : (d : Day) (n : ℕ) → n < 2_932_896 → IsDayNumber d n → IsDayNumber (next_day d) (n + 1)
next_number d n room h = elim (leb_tells (suc d.day) (days_in_month (pos d.year) d.month)) [
  | inl more ↦ rw more.0 (same_month d n h (omega (arith, more.1)))
  | inr end ↦ elim (leb_tells (suc d.month) 12) [
    | inl more ↦ rw (end.0, more.0) (next_month d n h (omega (arith, end.1)) (omega (arith, more.1)))
    | inr over ↦ rw (end.0, over.0) (next_year d n room h (omega (arith, end.1)) (omega (arith, over.1)))
  ]
]

-- the day so many days after 1970-01-01 has this number
pub day_after_number : (n : ℕ) → n ≤ 2_932_896 → IsDayNumber (day_after n) n
unfolding day_after
day_after_number zero h = record { low = omega arith; high = omega arith; month = (omega arith, omega arith); day = (omega arith, omega arith); number = first_number }
day_after_number (suc n) h = rw (← add-one n) (next_number (day_after n) n (omega arith) (day_after_number n (omega arith)))

-- a date of `jiff` with this number is that day
pub date_is_day : (a : Date) (n : ℕ) → n ≤ 2_932_896 → epoch_day a ≡ pos n
    → (a.year ≡ pos (day_after n).year) × (a.month ≡ (day_after n).month) × (a.day ≡ (day_after n).day)
unfolding date_of
date_is_day a n h e =
    let d = day_after_number n h in
    epoch_day_injective a (date_of (day_after n) n d) (e ∙ sym d.number)

pub first_date : (a : Date) → IsYmd (pos 1970) (pos 1) (pos 1) a → epoch_day a ≡ pos 0
first_date a h =
    let m : a.month ≡ 1 = omega (arith, signed_arith, h.1) in
    let d : a.day ≡ 1 = omega (arith, signed_arith, h.2) in
    rw (h.0, m, d) first_number
