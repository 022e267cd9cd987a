use Rattle.std.proofs.Common.{◌≡◌, ◌≤◌, ◌+◌, ◌++◌, length, take, vec_len, vec_capacity}
use Rattle.gate_journal.proofs.frame.put_last.Given as goal

abbrev pub invariant-more : goal.invariant-more
invariant-more l = record {
  items : l.bytes.items ≡ l.fn.bytes.items ++ take l.byte-index l.fn.more;
  len : vec_len l.bytes ≡ vec_len l.fn.bytes + l.byte-index;
  capacity : vec_capacity l.bytes ≡ vec_capacity l.fn.bytes;
  within : l.byte-index ≤ length l.fn.more;
}
