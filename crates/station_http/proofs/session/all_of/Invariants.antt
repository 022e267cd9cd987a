use Rattle.std.proofs.Common.{◌≡◌, ◌-◌, length}
use Rattle.station_http.specs.Limits.{session_limit}
use Rattle.station_http.proofs.Sessions.{Heard}
use Rattle.station_http.proofs.session.all_of.Given as goal

abbrev pub invariant-requests : goal.invariant-requests
invariant-requests g l = record {
  heard : Heard (g.S.Source.left l.fn.source) (g.S.Source.left l.source) l.conn l.requests.items;
  faults : g.S.Source.read_faults l.source ≡ g.S.Source.read_faults l.fn.source;
  beside : g.S.Source.beside_takes l.source ≡ g.S.Source.beside_takes l.fn.source;
}

abbrev pub decreases-requests : goal.decreases-requests
decreases-requests g l = session_limit - (l.conn.taken - length l.conn.pending)
