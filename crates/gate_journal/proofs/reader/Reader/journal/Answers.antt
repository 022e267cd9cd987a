use Rattle.std.proofs.Common.{◌≡◌, ◌+◌, ℕ, length, Err, ◌∙◌, ap, subst, arith}
use Rattle.gate_journal.specs.Grammar.{IsBad}
use Rattle.gate_journal.specs.Readings.{FoundRecords, BrokenAt}
use Rattle.gate_journal.specs.declared.fault.JournalFault.TheVariants.{BadRecord}
use Rattle.gate_journal.proofs.Loading.{none_short, none_shut, bad_header, behind_header, bad_record, loaded_from}
use Rattle.gate_journal.proofs.reader.Reader.journal.Goals as goal

pub returns-then-self-lt2-clause-none : goal.returns-then-self-lt2-clause-none
returns-then-self-lt2-clause-none g c _ d told =
    let size = c.args.self.now.sized d told in
    none_short d (omega (arith, size))

pub returns-then-gate-ne1-clause-none : goal.returns-then-gate-ne1-clause-none
returns-then-gate-ne1-clause-none g c _ d told = none_shut d c.in-Ok.gate (c.in-Ok.ensures.read d told) (λ is. absurd (omega (arith, is)))

pub returns-in-Ok-None-clause-bad : goal.returns-in-Ok-None-clause-bad
returns-in-Ok-None-clause-bad g c place is d told =
    let same : 0 ≡ place = cc in
    let size = c.args.self.now.sized d told in
    subst (λ (k : ℕ). IsBad d k) same
    (bad_header d c.in-Ok.gate (omega (arith, size)) (c.in-Ok.ensures.read d told) (omega arith) (c.in-Ok-None.ensures.none c.in-Ok-None.field-0-is d (c.in-Ok.ensures.untouched.content_same ∙ told)))

pub returns-in-Ok-records-clause-found : goal.returns-in-Ok-records-clause-found
returns-in-Ok-records-clause-found g c =
    let some = rw c.in-Ok-Some.field-0-is at c.in-Ok-Some.ensures.some in
    let same = c.in-Ok-Some.ensures.untouched.content_same ∙ c.in-Ok.ensures.untouched.content_same in
    let start : 13 + c.len.result ≡ 13 + length c.in-Ok-Some.site = ap (λ (k : ℕ). 13 + k) c.len.ensures in
    let size = c.header.new.self.size in
    let found = c.in-Ok-records.ensures.found in
    loaded_from (g.D.Disk.content c.args.self.now.disk) (record { site = c.in-Ok-Some.site; payloads = c.in-Ok-records.payloads }) c.in-Ok-records.end size some.0
    (λ d told.
    behind_header d c.in-Ok-Some.site c.in-Ok.gate (c.in-Ok.ensures.read d told) (omega arith) (some.2 d (c.in-Ok.ensures.untouched.content_same ∙ told)))
    (subst (λ told. FoundRecords told (13 + length c.in-Ok-Some.site) c.in-Ok-records.end size c.in-Ok-records.payloads) same
    (subst (λ (k : ℕ). FoundRecords (g.D.Disk.content c.header.new.self.disk) k c.in-Ok-records.end size c.in-Ok-records.payloads) start found))

pub returns-in-Err-records-clause-bad : goal.returns-in-Err-records-clause-bad
returns-in-Err-records-clause-bad g c place is d told =
    let some = rw c.in-Ok-Some.field-0-is at c.in-Ok-Some.ensures.some in
    let first = c.in-Ok.ensures.untouched.content_same ∙ told in
    let start : 13 + c.len.result ≡ 13 + length c.in-Ok-Some.site = ap (λ (k : ℕ). 13 + k) c.len.ensures in
    let again : c.in-Err-records.fault ≡ BadRecord place = cc in
    let broken = c.in-Err-records.ensures.bad place (ap (λ f. Err f) again) d (c.in-Ok-Some.ensures.untouched.content_same ∙ first) in
    bad_record d c.in-Ok-Some.site place some.0
    (behind_header d c.in-Ok-Some.site c.in-Ok.gate (c.in-Ok.ensures.read d told) (omega arith) (some.2 d first))
    (subst (λ (k : ℕ). BrokenAt k place d) start broken)
