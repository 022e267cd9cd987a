use Rattle.std.proofs.Common.{map, sym, ap, subst}
use Rattle.site_store.specs.Open.{HasBegun}
use Rattle.site_turns.specs.Origins.{at_desk}
use Rattle.turn_desk.specs.Tokens.{IsCrew}
use Rattle.server_tests.proofs.Starting.{taken_out}
use Rattle.server_tests.proofs.sessions.serve_all.Goals as goal

pub start-requires-clause-bare : goal.start-requires-clause-bare
start-requires-clause-bare g c = ap (map at_desk) c.loaded-store.ensures.noted

pub start-requires-clause-sound : goal.start-requires-clause-sound
start-requires-clause-sound g c =
    let e = c.loaded-store.ensures in
    record {
      is_open = e.open;
      begun = subst (λ v. HasBegun g.D.Disk (g.D.Disk.image v.disk) c.loaded-store.result) (sym e.opened) e.begun;
    }

pub serve_each-requires-clause-crew : goal.serve_each-requires-clause-crew
serve_each-requires-clause-crew g c = taken_out (λ r. IsCrew r.0 r.1.items) c.start.result c.ok.result c.expect-desk.result c.start.ensures.crew c.ok.ensures.value c.expect-desk.ensures
