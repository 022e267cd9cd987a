use Rattle.std.proofs.Common.{rules}
use Rattle.std.specs.Prelude.{Ok, Err}
use Rattle.gs1_keys.specs.Keys.{sscc_of}
use Rattle.gs1_keys.proofs.Exactly.{sscc_exactly}
use Rattle.gs1_keys.proofs.sscc.Sscc.read.Goals as goal

pub returns-in-Some-clause-valid : goal.returns-in-Some-clause-valid
unfolding sscc_of
returns-in-Some-clause-valid c = sscc_exactly (Err c.in-Some.fault) c.args.text.now (search rules)

pub returns-clause-valid : goal.returns-clause-valid
unfolding sscc_of
returns-clause-valid c = sscc_exactly (Ok c.args.text.now) c.args.text.now (search rules)
