use Rattle.std.proofs.Common.{◌≡◌, ◌-◌, ℕ, List, length, take, Some, None, Err, Ok, Option, true, sym, ◌∙◌, subst, nat_le}
use Rattle.std.proofs.lemmas.List.{length-take-le}
use Rattle.httparse.specs.Grammar.{RequestHead}
use Rattle.station_http.specs.Limits.{head_limit}
use Rattle.station_http.specs.Lines.{head_end}
use Rattle.station_http.specs.Head.{IsHead}
use Rattle.station_http.specs.Plans.{plan_of}
use Rattle.station_http.specs.Waiting.{IsDecided}
use Rattle.station_http.proofs.Decided.{none_decided, fault_decided, plan_decided, head_fits}
use Rattle.station_http.proofs.conn.is_decided.Goals as goal

pub returns-in_default : goal.returns-in_default
returns-in_default c =
    let bytes = c.args.bytes.now in
    let e = c.behind_blank-request.ensures in
    subst (λ (r : List ℕ). head_end r ≡ None → IsDecided bytes (nat_le head_limit (length r))) (sym e) (none_decided bytes c.requires) (sym c.head_end.ensures ∙ c.in_default.is)

pub slice_bounds-plan_for-end : goal.slice_bounds-plan_for-end
slice_bounds-plan_for-end c =
    let request = c.behind_blank-request.result.now in
    sym (length-take-le c.in-Some.head request (head_fits request c.in-Some.head (sym c.head_end.ensures ∙ c.in-Some.is)))

pub overflow_sub-result : goal.overflow_sub-result
overflow_sub-result c =
    let request = c.behind_blank-request.result.now in
    head_fits request c.in-Some.head (sym c.head_end.ensures ∙ c.in-Some.is)

pub returns-in-Err : goal.returns-in-Err
returns-in-Err c =
    let bytes = c.args.bytes.now in
    let e = c.behind_blank-request.ensures in
    let n = c.in-Some.head in
    subst (λ (r : List ℕ). head_end r ≡ Some n → (h : Option RequestHead) × IsHead (take n r) h × (Err c.in-Err.field-0 ≡ plan_of h) → IsDecided bytes true) (sym e)
    (fault_decided bytes n c.in-Err.field-0 c.requires) (sym c.head_end.ensures ∙ c.in-Some.is) c.in-Err.ensures.plan

pub returns-in-Ok : goal.returns-in-Ok
returns-in-Ok c =
    let bytes = c.args.bytes.now in
    let e = c.behind_blank-request.ensures in
    let n = c.in-Some.head in
    let plan = c.in-Ok.plan in
    subst (λ (r : List ℕ). head_end r ≡ Some n → (h : Option RequestHead) × IsHead (take n r) h × (Ok plan ≡ plan_of h) → IsDecided bytes (nat_le plan.body (length r - n))) (sym e)
    (plan_decided bytes n plan c.requires) (sym c.head_end.ensures ∙ c.in-Some.is) c.in-Ok.ensures.plan
