use Rattle.std.proofs.Common.{◌≡◌, ◌⊎◌, ◌≤◌, ◌<◌, ◌+◌, ◌-◌, [], true, length}
use Rattle.station_http.specs.Limits.{session_limit}
use Rattle.station_http.specs.Waiting.{IsWaiting}
use Rattle.site_server.proofs.Counting.{Counted}
use Rattle.site_server.proofs.Goings.{Holding}
use Rattle.site_server.proofs.connection.serve_requests.Given as goal

abbrev pub invariant-requests : goal.invariant-requests
invariant-requests g l = record {
  holding : Holding l.desk.origin l.fn.pass.worker (g.L.Source.left l.fn.link) (g.L.Source.left l.link) (g.L.Sink.held l.fn.link) (g.L.Sink.held l.link) l.conn l.fn.pass.seen l.pass.seen l.posts.items;
  waits : (l.posts.items ≡ []) ⊎ IsWaiting l.conn true;
  few : length l.posts.items < 16;
  turns : l.pass.turns + length l.posts.items + length l.conn.pending ≤ l.fn.pass.turns + l.conn.taken;
  counted : Counted (g.L.Source.left l.fn.link) (g.L.Source.left l.link) l.conn l.fn.pass.turns l.pass.turns (length l.posts.items);
  within : l.conn.taken ≤ session_limit;
  desk : l.pass.desk ≡ l.desk;
  worker : l.pass.worker ≡ l.fn.pass.worker;
  last : l.pass.last ≡ l.fn.pass.last;
  reads : g.L.Source.read_faults l.link ≡ g.L.Source.read_faults l.fn.link;
  writes : g.L.Sink.write_faults l.link ≡ g.L.Sink.write_faults l.fn.link;
}

abbrev pub decreases-requests : goal.decreases-requests
decreases-requests g l = session_limit - (l.conn.taken - length l.conn.pending)
