use Rattle.std.proofs.Common.{arith}
use Rattle.entry_bytes.proofs.Groups.{is_found, is_only, are_proper}
use Rattle.entry_bytes.proofs.reading.read_entries.Goals as goal

pub returns-clause-found : goal.returns-clause-found
returns-clause-found c = is_found c.args.bytes.now c.read_all.result (λ i. omega (arith, c.type_inv.bytes i)) c.read_all.ensures

pub returns-clause-only : goal.returns-clause-only
returns-clause-only c = is_only c.args.bytes.now c.read_all.result c.read_all.ensures

pub returns-clause-proper : goal.returns-clause-proper
returns-clause-proper c = are_proper c.args.bytes.now c.read_all.result (returns-clause-found c)
