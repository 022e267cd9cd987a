use Rattle.std.proofs.Common.{◌≡◌, ◌≤◌, ◌++◌, take, length}
use Rattle.percent_encoding.specs.Percent.{percent_decode}
use Rattle.percent_encoding.specs.Iter.{decoded_bytes}
use Rattle.http_routes.proofs.segment.decoded.Given as goal

abbrev pub invariant-loop-byte : goal.invariant-loop-byte
invariant-loop-byte l = record {
  fits : l.len ≤ 20;
  room : length l.bytes ≡ 20;
  same : take l.len l.bytes ++ decoded_bytes l.byte-iterator ≡ percent_decode l.segment;
}
