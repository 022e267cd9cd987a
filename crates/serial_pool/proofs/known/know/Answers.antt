use Rattle.std.proofs.Common.{◌+◌, ◌∙◌, ℕ, List, take, ap, sym, subst}
use Rattle.gs1_keys.specs.Forms.{AreNew}
use Rattle.serial_pool.specs.Held.{had_of}
use Rattle.serial_pool.specs.Ends.{IsFirstNotNew}
use Rattle.serial_pool.proofs.Adding.{AreNew-nil, first_not_new, one_more_known}
use Rattle.serial_pool.proofs.known.know.Goals as goal

pub loop-i-init : goal.loop-i-init
loop-i-init c =
    record {
      front = c.new-planned.ensures;
      new = subst (AreNew (had_of c.args.gtin.now c.args.drawn.now) c.args.form.now) (sym c.new-planned.ensures) (AreNew-nil (had_of c.args.gtin.now c.args.drawn.now) c.args.form.now);
    }

pub returns-then-not-is_fit-clause-known : goal.returns-then-not-is_fit-clause-known
returns-then-not-is_fit-clause-known c =
    let had = had_of c.args.gtin.now c.args.drawn.now in
    let items = c.as_slice-serial-items.result.now in
    let same = c.as_slice-serial-items.ensures in
    subst (λ (xs : List (List ℕ)). IsFirstNotNew had c.args.form.now xs c.loop-i.i) same
    (first_not_new had c.args.form.now items c.loop-i.planned c.loop-i.i c.serial-item.result c.loop-i-test.true c.serial-item.is
    (c.loop-i.invariant.front ∙ ap (take c.loop-i.i) (sym same)) c.loop-i.invariant.new (sym c.is_fit.ensures ∙ c.if-not-is_fit.true))

pub loop-i-preserved : goal.loop-i-preserved
loop-i-preserved c =
    let had = had_of c.args.gtin.now c.args.drawn.now in
    let items = c.as_slice-serial-items.result.now in
    let same = c.as_slice-serial-items.ensures in
    let p = one_more_known had c.args.form.now items c.loop-i.planned c.loop-i.i c.serial-item.result c.loop-i-test.true c.serial-item.is
    (c.loop-i.invariant.front ∙ ap (take c.loop-i.i) (sym same)) c.loop-i.invariant.new (sym c.is_fit.ensures ∙ c.if-not-is_fit.false) in
    record {
      front = c.in_ok-push.ensures ∙ p.0 ∙ ap (take (c.loop-i.i + 1)) same;
      new = subst (AreNew had c.args.form.now) (sym c.in_ok-push.ensures) p.1;
    }
