use Rattle.std.proofs.Common.{◌≡◌, ◌+◌, ℕ, List, ◌++◌, length, drop, take, Result, Ok, Err, sym, refl, ◌∙◌, ap, subst, arith}
use Rattle.std.specs.Io.KnownBytes.{IsAtEnd}
use Rattle.std.proofs.KnownBytes.{Consumes-trans}
use Rattle.std.proofs.lemmas.List.{take_at}
use Rattle.station_http.specs.declared.fault.HttpFault.{HttpFault}
use Rattle.http_routes.specs.declared.target.Target.{Target}
use Rattle.station_http.specs.Reading.{Reading}
use Rattle.station_http.specs.Found.{wrong, whole, with_target}
use Rattle.std.specs.Prelude.{IfErr, true}
use Rattle.station_http.specs.Refusals.{is_refusal}
use Rattle.station_http.specs.Steps.{GivesBody}
use Rattle.station_http.proofs.Requests.{head_read, head_length, both, refused, told_fault, body_fault, body_whole, after_body}
use Rattle.station_http.proofs.Idles.{there_ready, there_body, IsBodyThere}
use Rattle.station_http.proofs.Askings.{asks_of_head, asks_of_both}
use Rattle.station_http.proofs.conn.Conn.read.Goals as goal

pub take_plan-requires : goal.take_plan-requires
take_plan-requires g c =
    head_length _ _ c.args.self.now c.need_head.new.self c.in-Ok-Some.head c.in-Ok-Some.field-0 (IsAtEnd (g.S.Source.left c.need_head.new.source)) c.in-Ok-Some.field-0-is c.in-Ok-Some.ensures.head

pub need_body-requires : goal.need_body-requires
need_body-requires g c =
    let w = head_length _ _ c.args.self.now c.need_head.new.self c.in-Ok-Some.head c.in-Ok-Some.field-0 (IsAtEnd (g.S.Source.left c.need_head.new.source)) c.in-Ok-Some.field-0-is c.in-Ok-Some.ensures.head in
    omega (arith, c.need_head.ensures.held)

pub returns-in-Err-take_plan-clause-answer : goal.returns-in-Err-take_plan-clause-answer
returns-in-Err-take_plan-clause-answer g c =
    let at_end = IsAtEnd (g.S.Source.left c.need_head.new.source) in
    let fault = c.in-Err-take_plan.fault in
    let r = head_read _ _ c.args.self.now c.need_head.new.self c.in-Ok-Some.head c.in-Ok-Some.field-0 at_end (Err fault) c.in-Ok-Some.field-0-is c.in-Ok-Some.ensures.head c.need_head.ensures.held c.in-Err-take_plan.ensures.plan in
    let found = refused _ _ c.args.self.now c.need_head.new.self c.in-Ok-Some.head fault r in
    (r.bytes, r.from, (ap (λ (r : Reading). r.taken) c.take_plan.ensures.after ∙ r.size, told_fault (c.args.self.now.pending ++ r.bytes) c.take_plan.new.self.taken at_end fault c.told.result found c.in-Err-take_plan.ensures.refused c.told.ensures))

pub returns-in-Err-need_body-clause-answer : goal.returns-in-Err-need_body-clause-answer
returns-in-Err-need_body-clause-answer g c =
    let at_mid = IsAtEnd (g.S.Source.left c.need_head.new.source) in
    let at_end = IsAtEnd (g.S.Source.left c.need_body.new.source) in
    let n = c.in-Ok-Some.head in
    let mid = c.need_head.new.self in
    let plan = c.in-Ok.plan in
    let fault = c.in-Err-need_body.fault in
    let r = head_read _ _ c.args.self.now mid n c.in-Ok-Some.field-0 at_mid (Ok plan) c.in-Ok-Some.field-0-is c.in-Ok-Some.ensures.head c.need_head.ensures.held c.in-Ok.ensures.plan in
    let b = c.in-Err-need_body.ensures.body in
    let pending = ap (λ (r : Reading). r.pending) c.take_plan.ensures.after in
    let given : GivesBody n plan.body (drop n mid.pending ++ b.0) (Err fault) c.need_body.new.self at_end = subst (λ (xs : List ℕ). GivesBody n plan.body (xs ++ b.0) (Err fault) c.need_body.new.self at_end) pending b.2.1 in (
      r.bytes ++ b.0,
      Consumes-trans _ _ _ r.bytes b.0 r.from b.1,
      (
        both c.args.self.now mid c.take_plan.new.self c.need_body.new.self r.bytes b.0 n r.size c.take_plan.ensures.after b.2.0,
        body_fault _ _ c.args.self.now mid c.need_body.new.self n plan r b.0 at_end fault given,
      ),
    )

pub returns-in-Err-target-clause-answer : goal.returns-in-Err-target-clause-answer
returns-in-Err-target-clause-answer g c =
    let at_mid = IsAtEnd (g.S.Source.left c.need_head.new.source) in
    let at_end = IsAtEnd (g.S.Source.left c.need_body.new.source) in
    let n = c.in-Ok-Some.head in
    let mid = c.need_head.new.self in
    let plan = c.in-Ok.plan in
    let fault = c.in-Err-target.fault in
    let r = head_read _ _ c.args.self.now mid n c.in-Ok-Some.field-0 at_mid (Ok plan) c.in-Ok-Some.field-0-is c.in-Ok-Some.ensures.head c.need_head.ensures.held c.in-Ok.ensures.plan in
    let b = c.in-Ok-need_body.ensures.body in
    let pending = ap (λ (r : Reading). r.pending) c.take_plan.ensures.after in
    let cut = ap (λ (xs : List ℕ). xs ++ b.0) (sym pending) ∙ b.2.1.0 in
    let e : wrong fault ≡ with_target (length r.skips.front) n (drop n mid.pending ++ b.0) plan plan.target =
    ap (with_target (length r.skips.front) n (drop n mid.pending ++ b.0) plan) (sym c.in-Err-target.is) in
    let found = body_whole _ _ c.args.self.now mid n plan r b.0 c.in-Ok-need_body.body c.need_body.new.self.pending cut b.2.1.1 (wrong fault) e in (
      r.bytes ++ b.0,
      Consumes-trans _ _ _ r.bytes b.0 r.from b.1,
      (
        both c.args.self.now mid c.take_plan.new.self c.need_body.new.self r.bytes b.0 n r.size c.take_plan.ensures.after b.2.0,
        told_fault (c.args.self.now.pending ++ (r.bytes ++ b.0)) c.need_body.new.self.taken at_end fault c.told-in-Err-target.result found (subst (λ (t : Result Target HttpFault). IfErr t (λ (f : HttpFault). is_refusal f ≡ true)) c.in-Err-target.is c.in-Ok.ensures.target) c.told-in-Err-target.ensures,
      ),
    )

pub returns-in-Ok-target-clause-answer : goal.returns-in-Ok-target-clause-answer
returns-in-Ok-target-clause-answer g c =
    let at_mid = IsAtEnd (g.S.Source.left c.need_head.new.source) in
    let n = c.in-Ok-Some.head in
    let mid = c.need_head.new.self in
    let plan = c.in-Ok.plan in
    let target = c.in-Ok-target.target in
    let body = c.in-Ok-need_body.body in
    let r = head_read _ _ c.args.self.now mid n c.in-Ok-Some.field-0 at_mid (Ok plan) c.in-Ok-Some.field-0-is c.in-Ok-Some.ensures.head c.need_head.ensures.held c.in-Ok.ensures.plan in
    let b = c.in-Ok-need_body.ensures.body in
    let pending = ap (λ (r : Reading). r.pending) c.take_plan.ensures.after in
    let cut = ap (λ (xs : List ℕ). xs ++ b.0) (sym pending) ∙ b.2.1.0 in
    let skipped = length r.skips.front in
    let rest = drop n mid.pending ++ b.0 in
    let front = sym (ap (take plan.body) cut ∙ take_at body c.need_body.new.self.pending plan.body b.2.1.1) in
    let e : whole (skipped + n + plan.body) (record { target = target; body = body; close = plan.close }) ≡ with_target skipped n rest plan plan.target =
    ap (λ (xs : List ℕ). whole (skipped + n + plan.body) (record { target = target; body = xs; close = plan.close })) front
    ∙ ap (with_target skipped n rest plan) (sym c.in-Ok-target.is) in
    let found = body_whole _ _ c.args.self.now mid n plan r b.0 body c.need_body.new.self.pending cut b.2.1.1 (whole (skipped + n + plan.body) (record { target = target; body = body; close = plan.close })) e in (
      r.bytes ++ b.0,
      Consumes-trans _ _ _ r.bytes b.0 r.from b.1,
      (
        both c.args.self.now mid c.take_plan.new.self c.need_body.new.self r.bytes b.0 n r.size c.take_plan.ensures.after b.2.0,
        (skipped + n + plan.body, found, after_body _ _ c.args.self.now mid n (Ok plan) r b.0 body c.need_body.new.self.pending plan.body cut b.2.1.1),
      ),
    )

pub returns-in-Err-clause-idle : goal.returns-in-Err-clause-idle
returns-in-Err-clause-idle g c there = (c.need_head.ensures.idle (there_ready c.args.self.now there)).0

pub returns-in-Ok-None-clause-idle : goal.returns-in-Ok-None-clause-idle
returns-in-Ok-None-clause-idle g c there = (c.need_head.ensures.idle (there_ready c.args.self.now there)).0

pub returns-in-Err-take_plan-clause-idle : goal.returns-in-Err-take_plan-clause-idle
returns-in-Err-take_plan-clause-idle g c there = (c.need_head.ensures.idle (there_ready c.args.self.now there)).0

pub returns-in-Err-need_body-clause-idle : goal.returns-in-Err-need_body-clause-idle
returns-in-Err-need_body-clause-idle g c there =
    let head = c.need_head.ensures.idle (there_ready c.args.self.now there) in
    let mid = c.need_head.new.self in
    let n = c.in-Ok-Some.head in
    let r = head_read _ _ c.args.self.now mid n c.in-Ok-Some.field-0 (IsAtEnd (g.S.Source.left c.need_head.new.source)) (Ok c.in-Ok.plan) c.in-Ok-Some.field-0-is c.in-Ok-Some.ensures.head c.need_head.ensures.held c.in-Ok.ensures.plan in
    let body = there_body c.args.self.now mid n c.in-Ok.plan there head.1 head.2 c.need_head.ensures.held r.end c.in-Ok.ensures.plan in
    c.need_body.ensures.idle (subst (λ (r : Reading). IsBodyThere r c.in-Ok.plan.body) (sym c.take_plan.ensures.after) body) ∙ head.0

pub returns-in-Err-target-clause-idle : goal.returns-in-Err-target-clause-idle
returns-in-Err-target-clause-idle g c there =
    let head = c.need_head.ensures.idle (there_ready c.args.self.now there) in
    let mid = c.need_head.new.self in
    let n = c.in-Ok-Some.head in
    let r = head_read _ _ c.args.self.now mid n c.in-Ok-Some.field-0 (IsAtEnd (g.S.Source.left c.need_head.new.source)) (Ok c.in-Ok.plan) c.in-Ok-Some.field-0-is c.in-Ok-Some.ensures.head c.need_head.ensures.held c.in-Ok.ensures.plan in
    let body = there_body c.args.self.now mid n c.in-Ok.plan there head.1 head.2 c.need_head.ensures.held r.end c.in-Ok.ensures.plan in
    c.need_body.ensures.idle (subst (λ (r : Reading). IsBodyThere r c.in-Ok.plan.body) (sym c.take_plan.ensures.after) body) ∙ head.0

pub returns-in-Ok-target-clause-idle : goal.returns-in-Ok-target-clause-idle
returns-in-Ok-target-clause-idle g c there =
    let head = c.need_head.ensures.idle (there_ready c.args.self.now there) in
    let mid = c.need_head.new.self in
    let n = c.in-Ok-Some.head in
    let r = head_read _ _ c.args.self.now mid n c.in-Ok-Some.field-0 (IsAtEnd (g.S.Source.left c.need_head.new.source)) (Ok c.in-Ok.plan) c.in-Ok-Some.field-0-is c.in-Ok-Some.ensures.head c.need_head.ensures.held c.in-Ok.ensures.plan in
    let body = there_body c.args.self.now mid n c.in-Ok.plan there head.1 head.2 c.need_head.ensures.held r.end c.in-Ok.ensures.plan in
    c.need_body.ensures.idle (subst (λ (r : Reading). IsBodyThere r c.in-Ok.plan.body) (sym c.take_plan.ensures.after) body) ∙ head.0

pub returns-in-Err-clause-asks : goal.returns-in-Err-clause-asks
returns-in-Err-clause-asks g c = asks_of_head _ _ c.args.self.now c.need_head.new.self c.need_head.new.self.taken c.need_head.ensures.asks refl

pub returns-in-Ok-None-clause-asks : goal.returns-in-Ok-None-clause-asks
returns-in-Ok-None-clause-asks g c = asks_of_head _ _ c.args.self.now c.need_head.new.self c.need_head.new.self.taken c.need_head.ensures.asks refl

pub returns-in-Err-take_plan-clause-asks : goal.returns-in-Err-take_plan-clause-asks
returns-in-Err-take_plan-clause-asks g c =
    asks_of_head _ _ c.args.self.now c.need_head.new.self c.take_plan.new.self.taken c.need_head.ensures.asks (ap (λ (r : Reading). r.taken) c.take_plan.ensures.after)

pub returns-in-Err-need_body-clause-asks : goal.returns-in-Err-need_body-clause-asks
returns-in-Err-need_body-clause-asks g c =
    let mid = c.need_head.new.self in
    let n = c.in-Ok-Some.head in
    let r = head_read _ _ c.args.self.now mid n c.in-Ok-Some.field-0 (IsAtEnd (g.S.Source.left c.need_head.new.source)) (Ok c.in-Ok.plan) c.in-Ok-Some.field-0-is c.in-Ok-Some.ensures.head c.need_head.ensures.held c.in-Ok.ensures.plan in
    asks_of_both _ _ _ c.args.self.now mid c.take_plan.new.self c.need_body.new.self n c.need_head.ensures.asks r.none r.end (ap (λ (r : Reading). r.taken) c.take_plan.ensures.after) c.need_body.ensures.asks

pub returns-in-Err-target-clause-asks : goal.returns-in-Err-target-clause-asks
returns-in-Err-target-clause-asks g c =
    let mid = c.need_head.new.self in
    let n = c.in-Ok-Some.head in
    let r = head_read _ _ c.args.self.now mid n c.in-Ok-Some.field-0 (IsAtEnd (g.S.Source.left c.need_head.new.source)) (Ok c.in-Ok.plan) c.in-Ok-Some.field-0-is c.in-Ok-Some.ensures.head c.need_head.ensures.held c.in-Ok.ensures.plan in
    asks_of_both _ _ _ c.args.self.now mid c.take_plan.new.self c.need_body.new.self n c.need_head.ensures.asks r.none r.end (ap (λ (r : Reading). r.taken) c.take_plan.ensures.after) c.need_body.ensures.asks

pub returns-in-Ok-target-clause-asks : goal.returns-in-Ok-target-clause-asks
returns-in-Ok-target-clause-asks g c =
    let mid = c.need_head.new.self in
    let n = c.in-Ok-Some.head in
    let r = head_read _ _ c.args.self.now mid n c.in-Ok-Some.field-0 (IsAtEnd (g.S.Source.left c.need_head.new.source)) (Ok c.in-Ok.plan) c.in-Ok-Some.field-0-is c.in-Ok-Some.ensures.head c.need_head.ensures.held c.in-Ok.ensures.plan in
    asks_of_both _ _ _ c.args.self.now mid c.take_plan.new.self c.need_body.new.self n c.need_head.ensures.asks r.none r.end (ap (λ (r : Reading). r.taken) c.take_plan.ensures.after) c.need_body.ensures.asks
