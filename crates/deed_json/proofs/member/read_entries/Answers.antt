use Rattle.std.proofs.Common.{◌≡◌, length, arith}
use Rattle.deed_json.proofs.Entries.{entries_many, entries_few}
use Rattle.deed_json.proofs.member.read_entries.Goals as goal

pub returns-then-len-gt1000-clause-is : goal.returns-then-len-gt1000-clause-is
returns-then-len-gt1000-clause-is c =
    let v = c.in-Some.entries.now in
    let same : c.len-then-len-gt1000.result ≡ length v.items = omega (arith, v.ok.0) in
    entries_many _ _ _ v.items _ c.in_ok-read_member.ensures c.in-Some.ensures same (omega arith)

pub returns-clause-is : goal.returns-clause-is
returns-clause-is c =
    let v = c.in-Some.entries.now in
    let same : c.len.result ≡ length v.items = omega (arith, v.ok.0) in
    rw c.as_slice.ensures.value (entries_few _ _ _ v.items _ c.in_ok-read_member.ensures c.in-Some.ensures same (omega arith))
