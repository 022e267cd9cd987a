use Rattle.std.proofs.Common.{◌+◌, sym, subst, ◌∙◌}
use Rattle.std.proofs.lemmas.List.{get_or_default}
use Rattle.item_store.specs.Store.{IsReached}
use Rattle.item_store.proofs.Walks.{passed_more}
use Rattle.item_store.proofs.walk.first_from.Goals as goal

pub loop-at-preserved : goal.loop-at-preserved
loop-at-preserved c =
    let own = c.loop-at.invariant.own c.loop-at-test.true in
    let x : IsReached c.args.rows.now (c.loop-at.at + 1) c.args.batch c.step-at.result = subst (λ b. IsReached c.args.rows.now (c.loop-at.at + 1) b c.step-at.result) own c.step-at.ensures in
    record {
      own = x.own;
      others = passed_more c.args.rows.now c.args.batch c.args.state c.args.from c.loop-at.at c.step-at.result c.index-rows-at.result c.loop-at.invariant.others (λ d. get_or_default c.args.rows.now c.loop-at.at d c.index-rows-at.result c.loop-at-test.true ∙ sym c.index-rows-at.is) (sym c.is_in.ensures ∙ c.if-not-is_in.true) x;
    }
