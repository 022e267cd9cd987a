use Rattle.std.proofs.Common.{◌≡◌, ◌<◌, length, arith}
use Rattle.site_files.proofs.Entries.{entries_many, entries_few}
use Rattle.site_files.proofs.site.entries_at.Goals as goal

pub returns-then-len-most-clause-is : goal.returns-then-len-most-clause-is
returns-then-len-most-clause-is c =
    let v = c.in-Some.entries.now in
    let same : c.len.result ≡ length v.items = omega (arith, v.ok.0) in
    let some : 0 < c.len.result = grind arith in
    entries_many _ _ _ _ v.items _ c.in_ok-field_at.ensures c.in-Some.ensures same some (omega arith)

pub returns-clause-is : goal.returns-clause-is
returns-clause-is c =
    let v = c.in-Some.entries.now in
    let same : c.len.result ≡ length v.items = omega (arith, v.ok.0) in
    let some : 0 < c.len.result = grind arith in
    rw c.as_slice.ensures.value (entries_few _ _ _ _ v.items _ c.in_ok-field_at.ensures c.in-Some.ensures same some (omega arith))
