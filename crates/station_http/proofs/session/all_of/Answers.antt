use Rattle.std.proofs.Common.{◌≡◌, ◌++◌, ◌∷◌, [], sym, refl, subst, ◌∙◌, arith, rules}
use Rattle.std.specs.Io.KnownBytes.{IsAtEnd}
use Rattle.station_http.proofs.Sessions.{Heard, silence, heard, ended, faulted}
use Rattle.station_http.proofs.session.all_of.Goals as goal

pub requests-init : goal.requests-init
requests-init g c = let n = c.in_ok-conn.ensures in record { heard = silence _ c.in_ok-conn.conn c.new-requests.result.items c.new-requests.ensures.items n.0 n.1 n.2; faults = refl; beside = refl }

pub requests-preserved : goal.requests-preserved
requests-preserved g c =
    let at_end = IsAtEnd (g.S.Source.left c.next.new.source) in
    let h = heard _ _ _ c.requests.conn.stage c.requests.conn c.next.new.self c.requests.requests.items c.in-Ok-Some.field-0 c.in-Ok-Some.asked at_end c.requests.invariant.heard refl c.in-Ok-Some.field-0-is c.in-Ok-Some.ensures.answer in
    let items : c.push.new.self.items ≡ c.requests.requests.items ++ c.in-Ok-Some.asked ∷ [] = search rules in
    record {
      heard = subst (Heard _ _ c.next.new.self) (sym items) h.0;
      faults = c.in-Ok-Some.ensures.cause.kept ∙ c.requests.invariant.faults;
      beside = c.in-Ok-Some.ensures.beside ∙ c.requests.invariant.beside;
    }

pub requests-smaller : goal.requests-smaller
requests-smaller g c =
    let at_end = IsAtEnd (g.S.Source.left c.next.new.source) in
    let h = heard _ _ _ c.requests.conn.stage c.requests.conn c.next.new.self c.requests.requests.items c.in-Ok-Some.field-0 c.in-Ok-Some.asked at_end c.requests.invariant.heard refl c.in-Ok-Some.field-0-is c.in-Ok-Some.ensures.answer in
    let more = h.1 in
    let within = c.next.ensures.within in
    omega (arith, more, within)

pub returns-in-Err-clause-session : goal.returns-in-Err-clause-session
returns-in-Err-clause-session g c =
    let at_end = IsAtEnd (g.S.Source.left c.next.new.source) in
    let w = faulted _ _ _ c.requests.conn.stage c.requests.conn c.next.new.self c.requests.requests.items c.in-Err.fault at_end c.requests.invariant.heard refl c.in-Err.ensures.answer in (w.0, w.1, (w.2, w.4))

pub returns-in-Ok-None-clause-session : goal.returns-in-Ok-None-clause-session
returns-in-Ok-None-clause-session g c =
    let at_end = IsAtEnd (g.S.Source.left c.next.new.source) in
    let w = ended _ _ _ c.requests.conn.stage c.requests.conn c.next.new.self c.requests.requests.items c.in-Ok-None.field-0 at_end c.requests.invariant.heard refl c.in-Ok-None.field-0-is c.in-Ok-None.ensures.answer in (w.0, w.1, (w.2, w.3))
