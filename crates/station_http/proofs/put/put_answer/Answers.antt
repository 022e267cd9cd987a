use Rattle.std.proofs.Common.{◌++◌, ◌∙◌, ℕ, List, length, sym, subst}
use Rattle.std.proofs.KnownBytes.{Appends-trans}
use Rattle.station_http.specs.Puts.{IsPart, IsPutOf}
use Rattle.station_http.specs.Answers.{head_text}
use Rattle.station_http.proofs.Putting.{part_of_first, then_second}
use Rattle.station_http.proofs.put.put_answer.Goals as goal

pub returns-in_default-clause-put : goal.returns-in_default-clause-put
returns-in_default-clause-put g c =
    let p = c.in_default.ensures.put in
    let head = c.bytes-2.ensures ∙ c.if-add_short.ensures.same ∙ c.answer_head-front.ensures in
    (p.0, p.1, part_of_first p.0 (head_text c.args.status c.args.kind (length c.args.body.now) c.args.last) c.args.body.now (subst (IsPart p.0) head p.2))

pub returns-clause-put : goal.returns-clause-put
returns-clause-put g c =
    let p = c.in-Ok.ensures.put in
    let q = c.put_all-3.ensures.put in
    let head = p.2 ∙ c.bytes-2.ensures ∙ c.if-add_short.ensures.same ∙ c.answer_head-front.ensures in
    let text = head_text c.args.status c.args.kind (length c.args.body.now) c.args.last in (
      p.0 ++ q.0,
      Appends-trans _ _ _ p.0 q.0 p.1 q.1,
      subst (λ (xs : List ℕ). IsPutOf (text ++ c.args.body.now) c.put_all-3.result (xs ++ q.0)) (sym head) (then_second _ _ text c.args.body.now q.0 c.put_all-3.result q.2),
    )
