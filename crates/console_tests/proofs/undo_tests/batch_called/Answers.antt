use Rattle.std.proofs.Common.{sym, ◌∙◌}
use Rattle.site_stores.proofs.Finding.{within}
use Rattle.console_tests.proofs.undo_tests.batch_called.Goals as goal

pub returns : goal.returns
returns g c = within _ _ c.in-Some.batch (sym c.batch.ensures ∙ c.in-Some.is)
