use Rattle.std.proofs.Common.{◌≡◌, ℕ, Bool, List, Result, Ok, Err, sym, ap, ◌∙◌, take, map, if◌then◌else◌}
use Rattle.httparse.specs.Spans.{span_bytes, header_bytes}
use Rattle.station_http.specs.declared.fault.HttpFault.{HttpFault}
use Rattle.station_http.specs.declared.fault.HttpFault.TheVariants.{ChunkedBody}
use Rattle.http_routes.specs.declared.target.Target.{Target}
use Rattle.station_http.specs.Plans.{with_body, body_of, closes}
use Rattle.station_http.specs.Targets.{target_of}
use Rattle.station_http.proofs.PlanSteps.{parts_plan}
use Rattle.station_http.proofs.plan.plan_of_parts.Goals as goal

pub returns-then-has_field-clause-plan : goal.returns-then-has_field-clause-plan
returns-then-has_field-clause-plan c =
    let head = c.args.head.now in
    let parts = c.args.parts.now in
    let xs = take parts.spans.headers parts.fields in
    let method = span_bytes head parts.spans.method in
    let path = span_bytes head parts.spans.path in
    let length = c.body_length-length.result in
    let good = sym c.is_bad.ensures ∙ c.if-is_bad.false in
    let plan = parts_plan head xs method path parts.spans.version length c.has_field.result c.body_length-length.ensures good c.has_field.ensures in
    let other = with_body method path parts.spans.version (map (header_bytes head) xs) (body_of method length) in
    sym (plan ∙ ap (λ (t : Bool). if t then Err ChunkedBody else other) c.if-has_field.true)

pub returns-in-Err-clause-plan : goal.returns-in-Err-clause-plan
returns-in-Err-clause-plan c =
    let head = c.args.head.now in
    let parts = c.args.parts.now in
    let xs = take parts.spans.headers parts.fields in
    let method = span_bytes head parts.spans.method in
    let path = span_bytes head parts.spans.path in
    let length = c.body_length-length.result in
    let good = sym c.is_bad.ensures ∙ c.if-is_bad.false in
    let plan = parts_plan head xs method path parts.spans.version length c.has_field.result c.body_length-length.ensures good c.has_field.ensures in
    let fields = map (header_bytes head) xs in
    let other = with_body method path parts.spans.version fields (body_of method length) in
    let body = ap (λ (m : List ℕ). body_of m length) (sym c.of-method.ensures) ∙ sym c.body_of.ensures.body ∙ c.in-Err.is in
    sym (plan ∙ ap (λ (t : Bool). if t then Err ChunkedBody else other) c.if-has_field.false ∙ ap (with_body method path parts.spans.version fields) body)

pub returns-clause-plan : goal.returns-clause-plan
returns-clause-plan c =
    let head = c.args.head.now in
    let parts = c.args.parts.now in
    let xs = take parts.spans.headers parts.fields in
    let method = span_bytes head parts.spans.method in
    let path = span_bytes head parts.spans.path in
    let length = c.body_length-length.result in
    let good = sym c.is_bad.ensures ∙ c.if-is_bad.false in
    let plan = parts_plan head xs method path parts.spans.version length c.has_field.result c.body_length-length.ensures good c.has_field.ensures in
    let fields = map (header_bytes head) xs in
    let other = with_body method path parts.spans.version fields (body_of method length) in
    let body = ap (λ (m : List ℕ). body_of m length) (sym c.of-method.ensures) ∙ sym c.body_of.ensures.body ∙ c.in-Ok.is in
    let close = c.is_last.ensures in
    let target : c.target_for.result ≡ target_of method path = c.target_for.ensures.target ∙ ap (λ (m : List ℕ). target_of m c.of.result.now) c.of-method.ensures ∙ ap (target_of method) c.of.ensures in
    ap (λ (b : Bool). Ok (record { body = c.in-Ok.body; close = b; target = c.target_for.result })) close
    ∙ ap (λ (t : Result Target HttpFault). Ok (record { body = c.in-Ok.body; close = closes parts.spans.version fields; target = t })) target
    ∙ sym (plan ∙ ap (λ (t : Bool). if t then Err ChunkedBody else other) c.if-has_field.false ∙ ap (with_body method path parts.spans.version fields) body)
