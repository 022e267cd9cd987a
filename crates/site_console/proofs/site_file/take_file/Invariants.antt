use Rattle.std.proofs.Common.{◌≡◌, ◌<◌, ◌+◌, ◌-◌, length, vec_len}
use Rattle.std.specs.Io.KnownBytes.{Consumes}
use Rattle.site_console.specs.Limits.{site_limit}
use Rattle.site_console.proofs.site_file.take_file.Given as goal

abbrev pub invariant-pieces : goal.invariant-pieces
invariant-pieces g l = record {
  from : Consumes (g.S.Source.left l.fn.site) (g.S.Source.left l.site) l.bytes.items;
  piece : 0 < vec_len l.piece;
  faults : g.S.Source.read_faults l.site ≡ g.S.Source.read_faults l.fn.site;
}

abbrev pub decreases-pieces : goal.decreases-pieces
decreases-pieces g l = (site_limit + 1) - length l.bytes.items
