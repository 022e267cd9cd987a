use Rattle.std.proofs.Common.{ap}
use Rattle.outside.proofs.kept.remember.Goals as goal

pub returns-clause-ok : goal.returns-clause-ok
returns-clause-ok c = record {
  moment = record { bytes = c.of.result; unsynced = c.of-2.result };
  bytes_are = ap (λ v. v.items) c.of.ensures;
  unsynced_is = c.of-2.ensures;
  joined = c.in_ok-push.ensures.items;
}
