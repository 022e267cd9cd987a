use Rattle.std.proofs.Common.{◌≡◌, ◌+◌, ◌-◌, map, take, vec_len, vec_capacity}
use Rattle.serial_pool.specs.Index.{hash_in}
use Rattle.serial_pool.proofs.drawn.cut_off.Given as goal

abbrev pub invariant-loop-i : goal.invariant-loop-i
invariant-loop-i l = record {
  items : l.drawn.items ≡ take (vec_len l.fn.drawn - l.i) l.fn.drawn.items;
  capacity : vec_capacity l.drawn ≡ vec_capacity l.fn.drawn;
  hashed : l.table.hashes ≡ map hash_in l.drawn.items;
  room : l.table.room ≡ l.fn.table.room + l.i;
}
