use Rattle.std.proofs.Common.{◌≡◌, ◌≤◌, ◌-◌, length}
use Rattle.station_http.specs.Limits.{session_limit}
use Rattle.station_http.proofs.Bodies.{Came}
use Rattle.station_http.proofs.Idles.{IsBodyIdle}
use Rattle.station_http.proofs.Askings.{AsksBody}
use Rattle.station_http.proofs.conn.Conn.need_body.Given as goal

abbrev pub invariant-pieces : goal.invariant-pieces
invariant-pieces g l = record {
  came : Came (g.S.Source.left l.fn.source) (g.S.Source.left l.source) l.fn.self l.self l.body;
  fits : length l.body ≤ l.count;
  within : l.self.taken ≤ session_limit;
  faults : g.S.Source.read_faults l.source ≡ g.S.Source.read_faults l.fn.source;
  idle : IsBodyIdle l.fn.source l.source l.fn.self l.self l.body l.count;
  asks : AsksBody (g.S.Source.asks l.fn.source) (g.S.Source.asks l.source) l.fn.self l.self;
  beside : g.S.Source.beside_takes l.source ≡ g.S.Source.beside_takes l.fn.source;
}

abbrev pub decreases-pieces : goal.decreases-pieces
decreases-pieces g l = session_limit - l.self.taken
