use Rattle.std.proofs.Common.{◌≡◌, ℕ, ◌≤◌, ◌+◌, length, map, take, drop}
use Rattle.epc_urn.specs.declared.epc.Epc.{Epc}
use Rattle.deed_words.specs.Names.{is_among}
use Rattle.deed_words.specs.Chain.{each, each_from, first, when}
use Rattle.name_marks.specs.Hashes.{hash_of}
use Rattle.name_marks.proofs.repeat.first_repeat.Given as goal

abbrev pub invariant-loop-place : goal.invariant-loop-place
invariant-loop-place l =
    let test = λ (k : ℕ) (name : Epc). when (is_among (take k l.names) name) k in
    record {
      hashes : l.table.hashes ≡ map hash_of (take l.place l.names);
      room : length l.names ≤ l.table.room + l.place;
      rest : each l.names test ≡ first (each_from l.place test (drop l.place l.names));
    }
