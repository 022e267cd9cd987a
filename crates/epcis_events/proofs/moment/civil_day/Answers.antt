use Rattle.std.proofs.Common.{rules, pos, arith}
use Rattle.epcis_events.specs.Moment.{day_after}
use Rattle.jiff_core.proofs.CalendarLemmas.{days_in_month_bounds}
use Rattle.jiff.proofs.SpanFacts.{signed_arith}
use Rattle.epcis_events.proofs.Days.{date_is_day, day_after_number}
use Rattle.epcis_events.proofs.moment.civil_day.Goals as goal

pub returns-clause-year : goal.returns-clause-year
returns-clause-year c =
    let is = date_is_day c.civil_date-date.result c.args.days c.requires (search rules) in
    omega (arith, signed_arith, is.0, c.year.ensures, c.unsigned_abs.ensures.value)

pub returns-clause-month : goal.returns-clause-month
returns-clause-month c =
    let is = date_is_day c.civil_date-date.result c.args.days c.requires (search rules) in
    omega (arith, signed_arith, is.1, c.month.ensures, c.unsigned_abs-2.ensures.value)

pub returns-clause-day : goal.returns-clause-day
returns-clause-day c =
    let is = date_is_day c.civil_date-date.result c.args.days c.requires (search rules) in
    let number = day_after_number c.args.days c.requires in
    let month = days_in_month_bounds (pos (day_after c.args.days).year) (day_after c.args.days).month in
    omega (arith, signed_arith, is.2, number.day.1, month.0, c.day.ensures, c.unsigned_abs-3.ensures.value)
