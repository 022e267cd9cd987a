use Rattle.std.proofs.Common.{◌<◌, ◌≤◌}
use Rattle.site_files.proofs.Expiries.{month_from, month_to, day_small}
use Rattle.site_files.proofs.expiry.day_printed.Goals as goal

pub returns-then-day-ne0-clause-small : goal.returns-then-day-ne0-clause-small
returns-then-day-ne0-clause-small c = rw c.digits_at-day.ensures.value (day_small c.args.expiry.now c.requires)

pub days_of-requires-clause-from : goal.days_of-requires-clause-from
days_of-requires-clause-from c = rw c.digits_at-2.ensures.value (month_from c.args.expiry.now c.requires)

pub days_of-requires-clause-to : goal.days_of-requires-clause-to
days_of-requires-clause-to c = rw c.digits_at-2.ensures.value (month_to c.args.expiry.now c.requires)
