use Rattle.std.proofs.Common.{◌≡◌, ◌+◌, ◌++◌, map, take, length, vec_capacity}
use Rattle.serial_pool.specs.Held.{drawn_for}
use Rattle.serial_pool.specs.Index.{hash_in}
use Rattle.serial_pool.proofs.drawn.append.Given as goal

abbrev pub invariant-loop-serial : goal.invariant-loop-serial
invariant-loop-serial l = record {
  items : l.drawn.items ≡ l.fn.drawn.items ++ drawn_for l.gtin (take l.serial-index l.serial-items);
  capacity : vec_capacity l.drawn ≡ vec_capacity l.fn.drawn;
  hashed : l.table.hashes ≡ map hash_in l.drawn.items;
  room : l.table.room + l.serial-index ≡ l.fn.table.room;
}
