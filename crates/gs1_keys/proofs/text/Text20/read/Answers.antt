use Rattle.std.proofs.Common.{rules}
use Rattle.std.specs.Prelude.{Ok, Err}
use Rattle.gs1_keys.specs.Keys.{text_of}
use Rattle.gs1_keys.specs.declared.fault.KeyFault.TheVariants.{NotInSet}
use Rattle.gs1_keys.proofs.Exactly.{text_exactly}
use Rattle.gs1_keys.proofs.text.Text20.read.Goals as goal

pub returns-in-Some-clause-valid : goal.returns-in-Some-clause-valid
unfolding text_of
returns-in-Some-clause-valid c = text_exactly (Err (NotInSet c.in-Some.at)) c.args.text.now (search rules)

pub returns-clause-valid : goal.returns-clause-valid
unfolding text_of
returns-clause-valid c = text_exactly (Ok c.args.text.now) c.args.text.now (search rules)
