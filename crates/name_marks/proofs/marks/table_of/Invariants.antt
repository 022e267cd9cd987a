use Rattle.std.proofs.Common.{◌≡◌, ◌≤◌, ◌+◌, length, map, take}
use Rattle.name_marks.specs.Hashes.{hash_of}
use Rattle.name_marks.proofs.marks.table_of.Given as goal

abbrev pub invariant-loop-name : goal.invariant-loop-name
invariant-loop-name l = record {
  hashes : l.table.hashes ≡ map hash_of (take l.name-index l.names);
  room : length l.names ≤ l.table.room + l.name-index;
}
