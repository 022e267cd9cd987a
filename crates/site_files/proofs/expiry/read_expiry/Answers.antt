use Rattle.std.proofs.Common.{sym}
use Rattle.site_files.proofs.Expiries.{date_is_expiry, month_is_expiry}
use Rattle.site_files.proofs.expiry.read_expiry.Goals as goal

pub returns-then-is_date_text-clause-proper : goal.returns-then-is_date_text-clause-proper
returns-then-is_date_text-clause-proper c = date_is_expiry c.args.text.now (sym c.if-is_date_text.ensures)

pub returns-then-is_month_text-clause-proper : goal.returns-then-is_month_text-clause-proper
returns-then-is_month_text-clause-proper c = month_is_expiry c.args.text.now (sym c.if-is_month_text.ensures)
