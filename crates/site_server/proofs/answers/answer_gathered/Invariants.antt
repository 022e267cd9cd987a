use Rattle.std.proofs.Common.{◌≡◌, ◌≤◌, ◌+◌, List, length}
use Rattle.station_http.specs.declared.asked.Asked.{Asked}
use Rattle.site_server.specs.Gathered.{ArePosts, CloseAs}
use Rattle.site_server.proofs.Gathering.{Answering}
use Rattle.site_server.proofs.answers.answer_gathered.Given as goal

abbrev pub invariant-turns : goal.invariant-turns
invariant-turns g l = record {
  answering : (asks : List Asked) → ArePosts asks l.fn.posts.items → CloseAs l.last asks
      → Answering l.desk.origin l.fn.pass.worker asks l.last l.posts.items (g.L.Sink.held l.fn.link) (g.L.Sink.held l.link) l.fn.pass.seen l.pass.seen;
  turns : l.pass.turns + length l.posts.items ≤ l.fn.pass.turns + length l.fn.posts.items;
  fewer : length l.posts.items ≤ length l.fn.posts.items;
  desk : l.pass.desk ≡ l.desk;
  worker : l.pass.worker ≡ l.fn.pass.worker;
  last : l.pass.last ≡ l.fn.pass.last;
  left : g.L.Source.left l.link ≡ g.L.Source.left l.fn.link;
  reads : g.L.Source.read_faults l.link ≡ g.L.Source.read_faults l.fn.link;
  writes : g.L.Sink.write_faults l.link ≡ g.L.Sink.write_faults l.fn.link;
}

abbrev pub decreases-turns : goal.decreases-turns
decreases-turns g l = length l.posts.items
