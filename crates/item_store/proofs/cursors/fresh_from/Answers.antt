use Rattle.std.proofs.Common.{ℕ, ◌+◌, List, length, sym, ap, subst, ◌∙◌, arith}
use Rattle.std.proofs.lemmas.List.{length_push}
use Rattle.deed_words.specs.declared.words.State.TheVariants.{Fresh}
use Rattle.item_store.specs.Rows.{is_in}
use Rattle.item_store.specs.Store.{IsReached}
use Rattle.item_store.proofs.Walks.{told_more, told_yes, told_no}
use Rattle.item_store.proofs.cursors.fresh_from.Goals.{then-is_in+in_ok-push, else-is_in}
use Rattle.item_store.proofs.cursors.fresh_from.Goals as goal

pub loop-at-preserved : goal.loop-at-preserved
loop-at-preserved c =
    let rows = c.args.rows.now in
    let own = c.loop-at.invariant.own c.loop-at-test.true in
    let x : IsReached rows (c.loop-at.at + 1) c.args.batch c.step-at.result = subst (λ b. IsReached rows (c.loop-at.at + 1) b c.step-at.result) own c.step-at.ensures in
    let told = told_more rows c.args.batch Fresh c.loop-at.at c.step-at.result c.index-rows-at.result c.loop-at-test.true x in
    let test = ap (is_in c.args.batch Fresh) (sym c.index-rows-at.is) ∙ sym c.is_in.ensures in
    elim c.if-is_in.branch [
      | then-is_in+in_ok-push w ↦
          let ids = w.ids-is ∙ w.in_ok-push.ensures in
          record {
            own = x.own;
            few = omega (arith, ap (λ (xs : List ℕ). length xs) ids, length_push c.loop-at.ids c.loop-at.at, c.len.ensures, c.if-len-count.true);
            told = told_yes _ c.loop-at.ids _ _ _ _ c.loop-at.at (test ∙ w.if-is_in.true) ids told c.loop-at.invariant.told;
          }
      | else-is_in w ↦
          record {
            own = x.own;
            few = omega (arith, ap (λ (xs : List ℕ). length xs) w.ids-is, c.loop-at.invariant.few);
            told = told_no _ c.loop-at.ids _ _ _ _ c.loop-at.at (test ∙ w.if-is_in.false) w.ids-is told c.loop-at.invariant.told;
          }
    ]
