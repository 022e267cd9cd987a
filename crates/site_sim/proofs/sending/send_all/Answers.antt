use Rattle.std.proofs.Common.{◌∙◌, true, false, refl, arith}
use Rattle.site_store.specs.Open.{store_state}
use Rattle.site_sim.proofs.Gone.{none_gone, gone_on, gone_out, gone_through, as_going, as_told}
use Rattle.site_sim.proofs.sending.send_all.Goals as goal

pub requests-init : goal.requests-init
requests-init g c = record {
  going = none_gone c.args.count (store_state c.args.store.now) _ _ c.args.known.now.sent c.requires.none;
  stands = c.requires.stands;
  few = omega (arith, c.requires.none);
  faults = refl;
}

pub requests-preserved : goal.requests-preserved
requests-preserved g c =
    let s = c.args.store.now in
    let l = c.requests in
    let u = c.send_at.new.store in
    let e = c.in-Ok-true.ensures in
    let w = e.went in
    record {
      going = gone_on c.args.count (store_state s) (store_state l.store) (store_state u) _ _ _ _ _ _ l.at l.known.sent c.send_at.new.known.sent c.in-Some.request w.0 l.invariant.going (c.request_at.ensures.is ∙ c.in-Some.is) (as_going _ _ _ _ _ _ _ c.in-Ok-true.field-0 true w.0 c.in-Ok-true.field-0-test w.2) w.1;
      stands = e.stands;
      few = omega (arith, e.sent, l.invariant.few);
      faults = e.cause.kept ∙ l.invariant.faults;
    }

pub returns-in-Ok-false-clause-went : goal.returns-in-Ok-false-clause-went
returns-in-Ok-false-clause-went g c =
    let s = c.args.store.now in
    let l = c.requests in
    let u = c.send_at.new.store in
    let w = c.in-Ok-false.ensures.went in
    as_told c.args.count (store_state s) (store_state u) _ _ _ _ c.send_at.new.known.sent
    (gone_out c.args.count (store_state s) (store_state l.store) (store_state u) _ _ _ _ _ _ l.at l.known.sent c.send_at.new.known.sent c.in-Some.request w.0 l.invariant.going (c.request_at.ensures.is ∙ c.in-Some.is) (as_going _ _ _ _ _ _ _ c.in-Ok-false.field-0 false w.0 c.in-Ok-false.field-0-test w.2) w.1)

pub returns-clause-went : goal.returns-clause-went
returns-clause-went g c =
    let s = c.args.store.now in
    let l = c.requests in
    as_told c.args.count (store_state s) (store_state l.store) _ _ _ _ l.known.sent
    (gone_through c.args.count (store_state s) (store_state l.store) _ _ _ _ l.at l.known.sent l.invariant.going c.in_default.ensures.is)
