use Rattle.std.proofs.Common.{rules}
use Rattle.std.specs.Prelude.{Ok, Err}
use Rattle.gs1_keys.specs.Keys.{gtin_of, padded}
use Rattle.gs1_keys.proofs.Exactly.{gtin_exactly}
use Rattle.gs1_keys.proofs.gtin.Gtin.read.Goals as goal

pub returns-in-Some-clause-valid : goal.returns-in-Some-clause-valid
unfolding gtin_of
returns-in-Some-clause-valid c = gtin_exactly (Err c.in-Some.fault) c.args.text.now (search rules)

pub returns-clause-valid : goal.returns-clause-valid
unfolding gtin_of
returns-clause-valid c = gtin_exactly (Ok (padded c.args.text.now)) c.args.text.now (search rules)
