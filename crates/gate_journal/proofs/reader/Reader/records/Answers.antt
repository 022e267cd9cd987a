use Rattle.std.proofs.Common.{◌≡◌, ◌+◌, ◌≤◌, ◌++◌, List, ℕ, length, drop, ◌∙◌, sym, ap, refl, arith}
use Rattle.gate_journal.specs.Grammar.{records}
use Rattle.gate_journal.specs.Readings.{bytes_of}
use Rattle.gate_journal.specs.declared.payload.Payload.{Payload}
use Rattle.gate_journal.proofs.OneMore.{one_more, reads_more, bytes_push}
use Rattle.gate_journal.proofs.Touch.{and_untouched}
use Rattle.gate_journal.proofs.reader.Reader.records.Goals as goal

pub records-preserved : goal.records-preserved
records-preserved g c =
    let some = rw c.in-Ok-Some.field-0-is at c.in-Ok-Some.ensures.some in
    let was = c.records.invariant in
    let p : Payload = record { at = c.records.at; bytes = c.in-Ok-Some.bytes } in
    let long : c.len.result ≡ length c.in-Ok-Some.bytes = c.len.ensures in
    let next = c.records.at + 5 + c.len.result in
    let behind : next ≡ c.records.at + 5 + length c.in-Ok-Some.bytes = ap (λ (k : ℕ). c.records.at + 5 + k) long in
    let far : c.records.at + 5 + length c.in-Ok-Some.bytes ≤ c.records.self.size = some.1 in
    let more = one_more c.args.start c.records.at next c.records.payloads c.push.new.self p (record { short = was.short; at_is = was.at_is; places = was.places }) c.in-Ok.ensures refl behind some.0 in
    record {
      within = omega (arith, behind, far, c.in-Ok-Some.ensures.size);
      size = c.in-Ok-Some.ensures.size ∙ was.size;
      short = more.short;
      at_is = more.at_is;
      places = more.places;
      read = λ d told. reads_more d c.in-Ok-Some.bytes c.args.start c.records.at next (bytes_of c.records.payloads) behind (was.read d told) (some.2 d (was.untouched.content_same ∙ told))
          ∙ ap (λ (ps : List (List ℕ)). records ps ++ drop next d) (sym (bytes_push c.records.payloads c.push.new.self p c.in-Ok.ensures));
      untouched = and_untouched g.D.Disk.content g.D.Disk.image g.D.Disk.moment g.D.Disk.image_since c.args.self.now.disk c.records.self.disk c.record.new.self.disk was.untouched c.in-Ok-Some.ensures.untouched;
      faults = c.in-Ok-Some.ensures.cause.kept ∙ was.faults;
    }
