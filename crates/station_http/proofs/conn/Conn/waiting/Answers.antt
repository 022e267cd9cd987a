use Rattle.std.proofs.Common.{◌≡◌, ◌<◌, ℕ, List, sym, ap, subst, ◌∙◌, arith}
use Rattle.std.specs.Prelude.{slice_range}
use Rattle.station_http.specs.declared.stage.Stage.TheVariants.{Open}
use Rattle.station_http.specs.Limits.{session_limit}
use Rattle.station_http.specs.Reading.{Reading}
use Rattle.station_http.specs.Waiting.{IsDecided}
use Rattle.station_http.proofs.Decided.{open_waiting}
use Rattle.station_http.proofs.conn.Conn.waiting.Goals as goal

pub returns : goal.returns
returns c =
    let s = c.self.inside in
    let r = c.args.self.now in
    let stage : r.stage ≡ Open = sym (ap (λ (r : Reading). r.stage) c.self.view_is) ∙ c.in-Open.is in
    let below : r.taken < session_limit = omega (arith, ap (λ (r : Reading). r.taken) c.self.view_is, c.if-self-eq-SESSION_LIMIT.false, c.self.invariant) in
    let pending : slice_range c.deref.result.now s.at s.end ≡ r.pending = ap (λ (xs : List ℕ). slice_range xs s.at s.end) c.deref.ensures.value ∙ ap (λ (r : Reading). r.pending) c.self.view_is in
    open_waiting r c.is_decided.result stage below (subst (λ (xs : List ℕ). IsDecided xs c.is_decided.result) pending c.is_decided.ensures)
