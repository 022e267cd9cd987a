use Rattle.std.proofs.Common.{rules}
use Rattle.std.specs.Prelude.{Ok, Err}
use Rattle.gs1_keys.specs.Keys.{prefix_of}
use Rattle.gs1_keys.specs.declared.fault.KeyFault.TheVariants.{NotDigit}
use Rattle.gs1_keys.proofs.Exactly.{prefix_exactly}
use Rattle.gs1_keys.proofs.prefix.Prefix.read.Goals as goal

pub returns-in-Some-clause-valid : goal.returns-in-Some-clause-valid
unfolding prefix_of
returns-in-Some-clause-valid c = prefix_exactly (Err (NotDigit c.in-Some.at)) c.args.text.now (search rules)

pub returns-clause-valid : goal.returns-clause-valid
unfolding prefix_of
returns-clause-valid c = prefix_exactly (Ok c.args.text.now) c.args.text.now (search rules)
