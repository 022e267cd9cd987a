use Rattle.std.proofs.Common.{◌≡◌, ◌<◌, ◌≤◌, ℕ, ◌++◌, length, None, sym, ◌∙◌, ap, refl, arith, Some, subst, inl, inr, false}
use Rattle.std.specs.Io.KnownBytes.{IsAtEnd}
use Rattle.outside.specs.declared.devices.Failed.{Failed}
use Rattle.std.proofs.lemmas.List.{nil_from_length}
use Rattle.station_http.specs.declared.fault.HttpFault.TheVariants.{HeadTooLong, Cut}
use Rattle.station_http.specs.Talk.{IsEnd}
use Rattle.station_http.specs.Reading.{Reading}
use Rattle.station_http.specs.Lines.{head_end}
use Rattle.station_http.specs.Gives.{is_full}
use Rattle.station_http.specs.Limits.{session_limit, head_limit}
use Rattle.station_http.proofs.Findings.{part_found, long_found, some_found}
use Rattle.station_http.specs.Waiting.{is_ready}
use Rattle.station_http.proofs.Idles.{idle_skipped, idle_returns, not_ready, not_both}
use Rattle.station_http.proofs.Going.{start, passed, more_came, none_came, failed}
use Rattle.station_http.proofs.Ends.{full_is, full_not, full_end, wrong_end, cut_end, none_end}
use Rattle.station_http.proofs.Askings.{no_head_asks, head_asks_skipped, head_asks_more, head_asks_failed}
use Rattle.station_http.proofs.conn.Conn.need_head.Goals as goal

pub returns-in-Some-clause-head : goal.returns-in-Some-clause-head
returns-in-Some-clause-head g c =
    let r = passed _ _ c.args.self.now c.pieces.self c.skip_blank.new.self c.pieces.invariant.sofar c.skip_blank.ensures in
    (r.sofar.bytes, r.sofar.from, (r.sofar.size, (r.sofar.skips, r.none, sym c.head_here.ensures ∙ c.in-Some.is)))

pub returns-then-self-eq-SESSION_LIMIT-clause-head : goal.returns-then-self-eq-SESSION_LIMIT-clause-head
returns-then-self-eq-SESSION_LIMIT-clause-head g c =
    let mid = c.skip_blank.new.self in
    let r = passed _ _ c.args.self.now c.pieces.self mid c.pieces.invariant.sofar c.skip_blank.ensures in
    let none = sym c.head_here.ensures ∙ c.in_default.is in
    let known = c.args.self.now.pending ++ r.sofar.bytes in
    let full : session_limit ≤ mid.taken = omega (arith, ap (λ (r : Reading). r.taken) c.self.view_is, c.if-self-eq-SESSION_LIMIT.true) in
    let fits : length mid.pending ≤ head_limit = omega (arith, c.held-held.ensures) in
    let found = some_found known mid.pending r.sofar.skips r.none none fits in
    (r.sofar.bytes, r.sofar.from, (r.sofar.size, (full_end mid.taken known found.0 (full_is mid.taken full) found.1 found.2, tt)))

pub returns-then-held-eq-HEAD_LIMIT-clause-head : goal.returns-then-held-eq-HEAD_LIMIT-clause-head
returns-then-held-eq-HEAD_LIMIT-clause-head g c =
    let mid = c.skip_blank.new.self in
    let r = passed _ _ c.args.self.now c.pieces.self mid c.pieces.invariant.sofar c.skip_blank.ensures in
    let none = sym c.head_here.ensures ∙ c.in_default.is in
    let below : mid.taken < session_limit = omega (arith, ap (λ (r : Reading). r.taken) c.self.view_is, c.self.invariant) in
    let long : length mid.pending ≡ head_limit = sym c.held-held.ensures.held ∙ c.if-held-eq-HEAD_LIMIT.true in
    let found = long_found (c.args.self.now.pending ++ r.sofar.bytes) mid.pending r.sofar.skips r.none none long in
    (r.sofar.bytes, r.sofar.from, (r.sofar.size, (wrong_end mid.taken (c.args.self.now.pending ++ r.sofar.bytes) HeadTooLong (full_not mid.taken below) found, tt)))

pub returns-in_default-fill-clause-head : goal.returns-in_default-fill-clause-head
returns-in_default-fill-clause-head g c =
    let mid = c.skip_blank.new.self in
    let new = c.fill.new.self in
    let r0 = passed _ _ c.args.self.now c.pieces.self mid c.pieces.invariant.sofar c.skip_blank.ensures in
    let f = failed Failed c.in_default-fill.field-0 _ _ _ c.args.self.now mid new (IsAtEnd (g.S.Source.left c.fill.new.source)) r0 c.in_default-fill.ensures.bytes in
    let r = f.0 in
    let none : head_end new.pending ≡ None = ap head_end f.1 ∙ sym c.head_here.ensures ∙ c.in_default.is in
    let short : length new.pending < head_limit = omega (arith, ap length f.1, c.held-held.ensures) in
    (r.sofar.bytes, r.sofar.from, (r.sofar.size, (length new.pending, part_found (c.args.self.now.pending ++ r.sofar.bytes) new.pending r.sofar.skips r.none none short)))

pub returns-then-held-eq0-clause-head : goal.returns-then-held-eq0-clause-head
returns-then-held-eq0-clause-head g c =
    let mid = c.skip_blank.new.self in
    let new = c.fill.new.self in
    let r0 = passed _ _ c.args.self.now c.pieces.self mid c.pieces.invariant.sofar c.skip_blank.ensures in
    let b = c.in-Ok.ensures.bytes in
    let f = none_came _ _ _ c.args.self.now mid new c.in-Ok.count b.0 r0 b.1 b.2.0 b.2.1 b.2.2 b.2.3 c.if-count-eq0.true in
    let r = f.0 in
    let none : head_end new.pending ≡ None = ap head_end f.1 ∙ sym c.head_here.ensures ∙ c.in_default.is in
    let same : length new.pending ≡ c.held-held.result = ap length f.1 ∙ sym c.held-held.ensures.held in
    let short : length new.pending < head_limit = omega (arith, c.held-held.ensures) in
    let below : new.taken < session_limit = omega (arith, f.2, ap (λ (r : Reading). r.taken) c.self.view_is, c.self.invariant) in
    let known = c.args.self.now.pending ++ r.sofar.bytes in
    let found = part_found known new.pending r.sofar.skips r.none none short in
    let zero : length new.pending ≡ 0 = same ∙ c.if-held-eq0.true in
    (r.sofar.bytes, r.sofar.from, (r.sofar.size, (none_end new.taken known (length new.pending) (full_not new.taken below) zero found, nil_from_length new.pending zero, b.2.4 c.if-count-eq0.true)))

pub returns-then-count-eq0-clause-head : goal.returns-then-count-eq0-clause-head
returns-then-count-eq0-clause-head g c =
    let mid = c.skip_blank.new.self in
    let new = c.fill.new.self in
    let r0 = passed _ _ c.args.self.now c.pieces.self mid c.pieces.invariant.sofar c.skip_blank.ensures in
    let b = c.in-Ok.ensures.bytes in
    let f = none_came _ _ _ c.args.self.now mid new c.in-Ok.count b.0 r0 b.1 b.2.0 b.2.1 b.2.2 b.2.3 c.if-count-eq0.true in
    let r = f.0 in
    let none : head_end new.pending ≡ None = ap head_end f.1 ∙ sym c.head_here.ensures ∙ c.in_default.is in
    let same : length new.pending ≡ c.held-held.result = ap length f.1 ∙ sym c.held-held.ensures.held in
    let short : length new.pending < head_limit = omega (arith, c.held-held.ensures) in
    let below : new.taken < session_limit = omega (arith, f.2, ap (λ (r : Reading). r.taken) c.self.view_is, c.self.invariant) in
    let known = c.args.self.now.pending ++ r.sofar.bytes in
    let found = part_found known new.pending r.sofar.skips r.none none short in
    let some : 0 < length new.pending = omega (arith, same, c.if-held-eq0.false) in
    let cut = cut_end new.taken known (length new.pending) (full_not new.taken below) some found in
    let told = subst (λ (n : ℕ). IsEnd (is_full new.taken) known (Some (Cut n))) same cut in
    (r.sofar.bytes, r.sofar.from, (r.sofar.size, (told, b.2.4 c.if-count-eq0.true)))

pub pieces-preserved : goal.pieces-preserved
pieces-preserved g c =
    let mid = c.skip_blank.new.self in
    let none = sym c.head_here.ensures ∙ c.in_default.is in
    let full : mid.taken < session_limit = omega (arith, ap (λ (r : Reading). r.taken) c.self.view_is, c.self.invariant) in
    let short : length mid.pending < head_limit = omega (arith, c.held-held.ensures) in
    let not : is_ready c.args.self.now ≡ false = not_ready _ c.args.source.now c.pieces.source c.args.self.now mid (idle_skipped _ c.args.source.now c.pieces.source c.args.self.now c.pieces.self c.skip_blank.new.self c.pieces.invariant.idle c.skip_blank.ensures) none full short in
    let r0 = passed _ _ c.args.self.now c.pieces.self mid c.pieces.invariant.sofar c.skip_blank.ensures in
    let b = c.in-Ok.ensures.bytes in
    record {
      sofar = more_came _ _ _ c.args.self.now mid c.fill.new.self c.in-Ok.count b.0 r0.sofar b.1 b.2.0 b.2.1 b.2.2 b.2.3;
      faults = c.in-Ok.ensures.cause.kept ∙ c.pieces.invariant.faults;
      idle = inr not;
      asks = head_asks_more _ _ _ c.args.self.now mid c.fill.new.self c.in-Ok.count b.0 (head_asks_skipped _ _ c.args.self.now c.pieces.self mid c.pieces.invariant.asks c.skip_blank.ensures) r0.none none c.fill.ensures.asked b.2.0 b.2.1 b.2.2;
      beside = c.in-Ok.ensures.beside ∙ c.pieces.invariant.beside;
    }

pub pieces-init : goal.pieces-init
pieces-init g c = record { sofar = start _ c.args.self.now; faults = refl; idle = inl (refl, refl, refl); asks = no_head_asks _ c.args.self.now; beside = refl }

pub returns-in-Some-clause-idle : goal.returns-in-Some-clause-idle
returns-in-Some-clause-idle g c ready =
    idle_returns _ c.args.source.now c.pieces.source c.args.self.now c.skip_blank.new.self _ (idle_skipped _ c.args.source.now c.pieces.source c.args.self.now c.pieces.self c.skip_blank.new.self c.pieces.invariant.idle c.skip_blank.ensures) ready

pub returns-then-self-eq-SESSION_LIMIT-clause-idle : goal.returns-then-self-eq-SESSION_LIMIT-clause-idle
returns-then-self-eq-SESSION_LIMIT-clause-idle g c ready =
    idle_returns _ c.args.source.now c.pieces.source c.args.self.now c.skip_blank.new.self _ (idle_skipped _ c.args.source.now c.pieces.source c.args.self.now c.pieces.self c.skip_blank.new.self c.pieces.invariant.idle c.skip_blank.ensures) ready

pub returns-then-held-eq-HEAD_LIMIT-clause-idle : goal.returns-then-held-eq-HEAD_LIMIT-clause-idle
returns-then-held-eq-HEAD_LIMIT-clause-idle g c ready =
    idle_returns _ c.args.source.now c.pieces.source c.args.self.now c.skip_blank.new.self _ (idle_skipped _ c.args.source.now c.pieces.source c.args.self.now c.pieces.self c.skip_blank.new.self c.pieces.invariant.idle c.skip_blank.ensures) ready

pub returns-in_default-fill-clause-idle : goal.returns-in_default-fill-clause-idle
returns-in_default-fill-clause-idle g c ready =
    let mid = c.skip_blank.new.self in
    let none = sym c.head_here.ensures ∙ c.in_default.is in
    let full : mid.taken < session_limit = omega (arith, ap (λ (r : Reading). r.taken) c.self.view_is, c.self.invariant) in
    let short : length mid.pending < head_limit = omega (arith, c.held-held.ensures) in
    let not : is_ready c.args.self.now ≡ false = not_ready _ c.args.source.now c.pieces.source c.args.self.now mid (idle_skipped _ c.args.source.now c.pieces.source c.args.self.now c.pieces.self c.skip_blank.new.self c.pieces.invariant.idle c.skip_blank.ensures) none full short in
    absurd (not_both (is_ready c.args.self.now) ready not)

pub returns-then-held-eq0-clause-idle : goal.returns-then-held-eq0-clause-idle
returns-then-held-eq0-clause-idle g c ready =
    let mid = c.skip_blank.new.self in
    let none = sym c.head_here.ensures ∙ c.in_default.is in
    let full : mid.taken < session_limit = omega (arith, ap (λ (r : Reading). r.taken) c.self.view_is, c.self.invariant) in
    let short : length mid.pending < head_limit = omega (arith, c.held-held.ensures) in
    let not : is_ready c.args.self.now ≡ false = not_ready _ c.args.source.now c.pieces.source c.args.self.now mid (idle_skipped _ c.args.source.now c.pieces.source c.args.self.now c.pieces.self c.skip_blank.new.self c.pieces.invariant.idle c.skip_blank.ensures) none full short in
    absurd (not_both (is_ready c.args.self.now) ready not)

pub returns-then-count-eq0-clause-idle : goal.returns-then-count-eq0-clause-idle
returns-then-count-eq0-clause-idle g c ready =
    let mid = c.skip_blank.new.self in
    let none = sym c.head_here.ensures ∙ c.in_default.is in
    let full : mid.taken < session_limit = omega (arith, ap (λ (r : Reading). r.taken) c.self.view_is, c.self.invariant) in
    let short : length mid.pending < head_limit = omega (arith, c.held-held.ensures) in
    let not : is_ready c.args.self.now ≡ false = not_ready _ c.args.source.now c.pieces.source c.args.self.now mid (idle_skipped _ c.args.source.now c.pieces.source c.args.self.now c.pieces.self c.skip_blank.new.self c.pieces.invariant.idle c.skip_blank.ensures) none full short in
    absurd (not_both (is_ready c.args.self.now) ready not)

pub returns-in-Some-clause-asks : goal.returns-in-Some-clause-asks
returns-in-Some-clause-asks g c = head_asks_skipped _ _ c.args.self.now c.pieces.self c.skip_blank.new.self c.pieces.invariant.asks c.skip_blank.ensures

pub returns-then-self-eq-SESSION_LIMIT-clause-asks : goal.returns-then-self-eq-SESSION_LIMIT-clause-asks
returns-then-self-eq-SESSION_LIMIT-clause-asks g c = head_asks_skipped _ _ c.args.self.now c.pieces.self c.skip_blank.new.self c.pieces.invariant.asks c.skip_blank.ensures

pub returns-then-held-eq-HEAD_LIMIT-clause-asks : goal.returns-then-held-eq-HEAD_LIMIT-clause-asks
returns-then-held-eq-HEAD_LIMIT-clause-asks g c = head_asks_skipped _ _ c.args.self.now c.pieces.self c.skip_blank.new.self c.pieces.invariant.asks c.skip_blank.ensures

pub returns-in_default-fill-clause-asks : goal.returns-in_default-fill-clause-asks
returns-in_default-fill-clause-asks g c =
    let mid = c.skip_blank.new.self in
    let r0 = passed _ _ c.args.self.now c.pieces.self mid c.pieces.invariant.sofar c.skip_blank.ensures in
    let b = c.in_default-fill.ensures.bytes in
    head_asks_failed _ _ _ c.args.self.now mid c.fill.new.self (head_asks_skipped _ _ c.args.self.now c.pieces.self mid c.pieces.invariant.asks c.skip_blank.ensures) r0.none (sym c.head_here.ensures ∙ c.in_default.is) c.fill.ensures.asked b.2.1

pub returns-then-held-eq0-clause-asks : goal.returns-then-held-eq0-clause-asks
returns-then-held-eq0-clause-asks g c =
    let mid = c.skip_blank.new.self in
    let r0 = passed _ _ c.args.self.now c.pieces.self mid c.pieces.invariant.sofar c.skip_blank.ensures in
    let b = c.in-Ok.ensures.bytes in
    head_asks_more _ _ _ c.args.self.now mid c.fill.new.self c.in-Ok.count b.0 (head_asks_skipped _ _ c.args.self.now c.pieces.self mid c.pieces.invariant.asks c.skip_blank.ensures) r0.none (sym c.head_here.ensures ∙ c.in_default.is) c.fill.ensures.asked b.2.0 b.2.1 b.2.2

pub returns-then-count-eq0-clause-asks : goal.returns-then-count-eq0-clause-asks
returns-then-count-eq0-clause-asks g c =
    let mid = c.skip_blank.new.self in
    let r0 = passed _ _ c.args.self.now c.pieces.self mid c.pieces.invariant.sofar c.skip_blank.ensures in
    let b = c.in-Ok.ensures.bytes in
    head_asks_more _ _ _ c.args.self.now mid c.fill.new.self c.in-Ok.count b.0 (head_asks_skipped _ _ c.args.self.now c.pieces.self mid c.pieces.invariant.asks c.skip_blank.ensures) r0.none (sym c.head_here.ensures ∙ c.in_default.is) c.fill.ensures.asked b.2.0 b.2.1 b.2.2
