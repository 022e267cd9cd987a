use Rattle.std.specs.Prelude.{Ok, Err}
use Rattle.std.proofs.Common.{rules}
use Rattle.gs1_keys.specs.Keys.{check, check_of}
use Rattle.gs1_keys.specs.declared.fault.KeyFault.TheVariants.{NotDigit}
use Rattle.gs1_keys.proofs.Exactly.{check_exactly}
use Rattle.gs1_keys.proofs.check.check_digit.Goals as goal

pub returns-in-Some-clause-valid : goal.returns-in-Some-clause-valid
unfolding check_of
returns-in-Some-clause-valid c = check_exactly (Err (NotDigit c.in-Some.at)) c.args.digits.now (search rules)

pub returns-in-None-clause-valid : goal.returns-in-None-clause-valid
unfolding check_of
returns-in-None-clause-valid c = check_exactly (Ok (check c.args.digits.now)) c.args.digits.now (search rules)
