use Rattle.std.proofs.Common.{◌≡◌, ◌-◌}
use Rattle.station_http.specs.Limits.{session_limit}
use Rattle.station_http.proofs.Going.{Sofar}
use Rattle.station_http.proofs.Idles.{IsIdle}
use Rattle.station_http.proofs.Askings.{AsksHead}
use Rattle.station_http.proofs.conn.Conn.need_head.Given as goal

abbrev pub invariant-pieces : goal.invariant-pieces
invariant-pieces g l = record {
  sofar : Sofar (g.S.Source.left l.fn.source) (g.S.Source.left l.source) l.fn.self l.self;
  faults : g.S.Source.read_faults l.source ≡ g.S.Source.read_faults l.fn.source;
  idle : IsIdle l.fn.source l.source l.fn.self l.self l.fn.self.pending;
  asks : AsksHead (g.S.Source.asks l.fn.source) (g.S.Source.asks l.source) l.fn.self l.self;
  beside : g.S.Source.beside_takes l.source ≡ g.S.Source.beside_takes l.fn.source;
}

abbrev pub decreases-pieces : goal.decreases-pieces
decreases-pieces g l = session_limit - l.self.taken
