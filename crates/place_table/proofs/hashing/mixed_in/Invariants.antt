use Rattle.std.proofs.Common.{◌≡◌, ◌^◌, ◌<◌, take}
use Rattle.std.specs.List.{fold}
use Rattle.place_table.specs.Hash.{mix}
use Rattle.place_table.proofs.hashing.mixed_in.Given as goal

abbrev pub invariant-loop-byte : goal.invariant-loop-byte
invariant-loop-byte l = record {
  small : l.hash < 2 ^ 64;
  mixed : l.hash ≡ fold mix l.fn.hash (take l.byte-index l.text);
}
