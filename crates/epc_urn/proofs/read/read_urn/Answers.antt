use Rattle.std.proofs.Common.{◌∙◌}
use Rattle.epc_urn.proofs.Whole.{name_takes, urn_again, read_is, fault_is}
use Rattle.epc_urn.proofs.read.read_urn.Goals as goal

pub returns-in-Ok-clause-found : goal.returns-in-Ok-clause-found
returns-in-Ok-clause-found c = let t = name_takes c.args.text.now c.in-Ok.named c.in-Ok.ensures in (t.1, t.2, t.0)

pub returns-in-Ok-clause-only : goal.returns-in-Ok-clause-only
returns-in-Ok-clause-only c epc length h few e = read_is c.args.text.now c.in-Ok.named c.in-Ok.ensures ∙ urn_again c.args.text.now epc length h few e

pub returns-in-Ok-clause-exact : goal.returns-in-Ok-clause-exact
returns-in-Ok-clause-exact c = read_is c.args.text.now c.in-Ok.named c.in-Ok.ensures

pub returns-in-Err-clause-only : goal.returns-in-Err-clause-only
returns-in-Err-clause-only c epc length h few e = fault_is c.args.text.now c.in-Err.stop c.placed.result c.in-Err.ensures c.placed.ensures ∙ urn_again c.args.text.now epc length h few e

pub returns-in-Err-clause-exact : goal.returns-in-Err-clause-exact
returns-in-Err-clause-exact c = fault_is c.args.text.now c.in-Err.stop c.placed.result c.in-Err.ensures c.placed.ensures
