use Rattle.std.proofs.Common.{rules}
use Rattle.batch_report.specs.Texts.{report_of}
use Rattle.batch_report.proofs.Joined.{report_is}
use Rattle.batch_report.proofs.text.report.Goals as goal

pub returns-clause-text : goal.returns-clause-text
unfolding report_of
returns-clause-text c = search rules

pub returns-clause-batch : goal.returns-clause-batch
unfolding returns-clause-text
returns-clause-batch c site history name batch there is = report_is site history name _ batch c.args.view.now there is (returns-clause-text c)
