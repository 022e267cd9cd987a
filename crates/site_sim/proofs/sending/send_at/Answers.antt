use Rattle.std.proofs.Common.{◌∙◌, sym, true≢false}
use Rattle.site_store.specs.Open.{store_state}
use Rattle.site_sim.proofs.Gone.{sent_once, sent_twice}
use Rattle.site_sim.proofs.Noticed.{if_ok, of_ok, when_ok}
use Rattle.site_sim.proofs.sending.send_at.Goals.{else-going-via-then-going+else-place-eq0, else-going-via-else-going}
use Rattle.site_sim.proofs.sending.send_at.Goals as goal

pub returns-then-place-eq0-clause-went : goal.returns-then-place-eq0-clause-went
returns-then-place-eq0-clause-went g c =
    let s = c.args.store.now in
    let m = c.send.new.store in
    let u = c.send-then-place-eq0.new.store in
    let e = c.in_ok-going.ensures in
    let f = c.send-then-place-eq0.ensures in
    let r = c.send-then-place-eq0.result in
    if_ok r _
    (λ going is.
    sent_twice (store_state s) (store_state m) (store_state u) c.args.place c.args.request c.in_ok-going.going going e.went.0 (of_ok r _ going f.went is).0 _ _ _ _ _ _
    c.args.known.now.sent c.send.new.known.sent c.send-then-place-eq0.new.known.sent c.if-place-eq0.true c.if-going.true e.went.1 (of_ok r _ going f.went is).1 e.sent (when_ok r _ going f.sent is))

pub returns-clause-went : goal.returns-clause-went
returns-clause-went g c =
    let s = c.args.store.now in
    let m = c.send.new.store in
    let e = c.in_ok-going.ensures in
    sent_once (store_state s) (store_state m) c.args.place c.args.request c.in_ok-going.going e.went.0 _ _ _ _ c.args.known.now.sent c.send.new.known.sent
    (elim c.else-going.branch [
      | else-going-via-then-going+else-place-eq0 w ↦ λ yes ten. w.if-place-eq0.false ten
      | else-going-via-else-going w ↦ λ yes ten. true≢false (sym yes ∙ w.if-going.false)
    ])
    e.went.1 e.sent
