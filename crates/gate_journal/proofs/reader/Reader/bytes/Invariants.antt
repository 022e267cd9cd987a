use Rattle.std.proofs.Common.{◌≡◌, ◌≤◌, ◌-◌, length, take, drop}
use Rattle.outside.specs.Disks.{Tells}
use Rattle.gate_journal.specs.Readings.{Untouched}
use Rattle.gate_journal.proofs.reader.Reader.bytes.Given as goal

abbrev pub invariant-loop-bytes : goal.invariant-loop-bytes
invariant-loop-bytes g l =
    let D = g.D.Disk in
    record {
      within : length l.bytes.items ≤ l.count;
      read : Tells (D.content l.fn.self.disk) (λ c. l.bytes.items ≡ take (length l.bytes.items) (drop l.at c));
      size : l.self.size ≡ l.fn.self.size;
      untouched : Untouched D.content D.image D.moment D.image_since l.fn.self.disk l.self.disk;
      faults : D.disk_faults l.self.disk ≡ D.disk_faults l.fn.self.disk;
    }

abbrev pub decreases-loop-bytes : goal.decreases-loop-bytes
decreases-loop-bytes g l = l.count - length l.bytes.items
