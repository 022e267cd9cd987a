use Rattle.std.proofs.Common.{ℕ, ◌+◌, sym, subst, ◌∙◌, arith}
use Rattle.std.proofs.lemmas.List.{length-map}
use Rattle.std.proofs.lemmas.Option.{slice_get_within}
use Rattle.item_store.specs.Rows.{batches, batch_in}
use Rattle.batch_book.specs.Said.{IsReached}
use Rattle.batch_book.specs.Closing.{is_free}
use Rattle.batch_book.proofs.Walked.{passed, passed_more, own_passes}
use Rattle.batch_book.proofs.packed.first_unpacked.Goals as goal

pub loop-at-init : goal.loop-at-init
loop-at-init c = record {
  own = λ l. c.begin-at.ensures.own (omega (arith, l, length-map c.args.items.now.rows batch_in));
  before = λ k row l e. passed c.args.items.now.rows c.args.batch 0 c.begin-at.result (is_free c.args.tree.now.pairs) c.begin-at.ensures k row (omega arith) l e;
}

pub loop-at-preserved : goal.loop-at-preserved
loop-at-preserved c =
    let rows = c.args.items.now.rows in
    let at : ℕ = c.loop-at.at in
    let own = c.loop-at.invariant.own (omega (arith, c.loop-at-test.true, c.len.ensures)) in
    let x : IsReached (batches rows) (at + 1) c.args.batch c.step-at.result = subst (λ b. IsReached (batches rows) (at + 1) b c.step-at.result) own c.step-at.ensures in
    record {
      own = λ l. x.own (omega (arith, l, length-map rows batch_in));
      before = passed_more rows c.args.batch at c.step-at.result c.row-row.result (is_free c.args.tree.now.pairs) c.loop-at.invariant.before c.row-row.ensures.is (sym c.is_free.ensures ∙ c.if-is_free.false) x;
    }

pub returns-then-is_free : goal.returns-then-is_free
returns-then-is_free c =
    let own = c.loop-at.invariant.own (omega (arith, c.loop-at-test.true, c.len.ensures)) in
    ((c.row-row.result, c.row-row.ensures.is, own_passes c.args.items.now.rows c.args.batch c.loop-at.at c.row-row.result _ own c.row-row.ensures.is (sym c.is_free.ensures ∙ c.if-is_free.true)), c.loop-at.invariant.before)

pub returns : goal.returns
returns c = λ k row e. c.loop-at.invariant.before k row (omega (arith, slice_get_within c.args.items.now.rows k row e, c.loop-at-test.false, c.len.ensures)) e
