use Rattle.std.proofs.Common.{◌≡◌, ◌≤◌, ◌-◌, ◌*◌, length}
use Rattle.site_store.specs.Open.{store_state}
use Rattle.site_sim.specs.Requests.{requests}
use Rattle.site_sim.specs.Standing.{Stands}
use Rattle.site_sim.proofs.Gone.{Going}
use Rattle.site_sim.proofs.sending.send_all.Given as goal

abbrev pub invariant-requests : goal.invariant-requests
invariant-requests g l = record {
  going : Going l.fn.count (store_state l.fn.store) (store_state l.store) (g.C.Clock.moments_left l.fn.store.clock) (g.C.Clock.moments_left l.store.clock) (g.W.Words.words_left l.fn.store.words) (g.W.Words.words_left l.store.words) l.at l.known.sent;
  stands : Stands g.D.Disk g.C.Clock g.W.Words l.store l.known;
  few : l.known.sent ≤ 2 * l.at;
  faults : g.D.Disk.disk_faults l.store.journal.disk ≡ g.D.Disk.disk_faults l.fn.store.journal.disk;
}

abbrev pub decreases-requests : goal.decreases-requests
decreases-requests g l = length (requests l.fn.count) - l.at
