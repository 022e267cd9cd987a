use Rattle.std.proofs.Common.{◌≡◌, ◌+◌, ◌-◌, ◌≤◌, ◌++◌, length, drop}
use Rattle.outside.specs.Disks.{Tells}
use Rattle.gate_journal.specs.Grammar.{records, AreShort, placed}
use Rattle.gate_journal.specs.Readings.{Untouched, bytes_of, places_of}
use Rattle.gate_journal.proofs.reader.Reader.records.Given as goal

abbrev pub invariant-records : goal.invariant-records
invariant-records g l =
    let D = g.D.Disk in
    let ps = bytes_of l.payloads in
    record {
      within : l.at ≤ l.self.size;
      size : l.self.size ≡ l.fn.self.size;
      short : AreShort ps;
      at_is : l.at ≡ l.start + length (records ps);
      places : places_of l.payloads ≡ placed l.start ps;
      read : Tells (D.content l.fn.self.disk) (λ c. drop l.start c ≡ records ps ++ drop l.at c);
      untouched : Untouched D.content D.image D.moment D.image_since l.fn.self.disk l.self.disk;
      faults : D.disk_faults l.self.disk ≡ D.disk_faults l.fn.self.disk;
    }

abbrev pub decreases-records : goal.decreases-records
decreases-records g l = l.self.size - l.at
