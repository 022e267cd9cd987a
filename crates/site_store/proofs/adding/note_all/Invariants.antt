use Rattle.std.proofs.Common.{◌≡◌, ◌+◌, ◌++◌, length, vec_len, vec_capacity}
use Rattle.std.specs.Vec.Iter.{into_iter_items, into_iter_len}
use Rattle.site_store.specs.Standing.{noted_in}
use Rattle.site_store.proofs.adding.note_all.Given as goal

abbrev pub invariant-rows : goal.invariant-rows
invariant-rows l = record {
  noted : noted_in l.log.items ++ noted_in (into_iter_items l.rest) ≡ noted_in l.fn.log.items ++ noted_in l.fn.rows.items;
  len : vec_len l.log + length (into_iter_items l.rest) ≡ vec_len l.fn.log + length l.fn.rows.items;
  capacity : vec_capacity l.log ≡ vec_capacity l.fn.log;
}

abbrev pub decreases-rows : goal.decreases-rows
decreases-rows l = into_iter_len l.rest
