use Rattle.std.proofs.Common.{rules}
use Rattle.std.specs.Prelude.{Ok, Err}
use Rattle.gs1_keys.specs.Keys.{gln_of}
use Rattle.gs1_keys.proofs.Exactly.{gln_exactly}
use Rattle.gs1_keys.proofs.gln.Gln.read.Goals as goal

pub returns-in-Some-clause-valid : goal.returns-in-Some-clause-valid
unfolding gln_of
returns-in-Some-clause-valid c = gln_exactly (Err c.in-Some.fault) c.args.text.now (search rules)

pub returns-clause-valid : goal.returns-clause-valid
unfolding gln_of
returns-clause-valid c = gln_exactly (Ok c.args.text.now) c.args.text.now (search rules)
