use Rattle.std.proofs.Common.{◌≡◌, ℕ, ◌+◌, take, get_or, Some, Option, cond, sym, ap, subst, ◌∙◌, arith}
use Rattle.std.specs.Prelude.{find, reverse}
use Rattle.std.proofs.lemmas.Bool.{cond-true, cond-false}
use Rattle.std.proofs.lemmas.List.{length-map, take_all}
use Rattle.batch_book.specs.declared.row.DeclarationRow.{DeclarationRow}
use Rattle.batch_book.specs.Said.{batch_in, batches, is_by, IsReached}
use Rattle.batch_book.proofs.Hearing.{last_reached, last_none, last_more}
use Rattle.batch_book.proofs.declarations.last_by.Goals as goal
use Rattle.batch_book.proofs.declarations.last_by.Goals.{then-is_by, else-is_by}

pub loop-at-init : goal.loop-at-init
loop-at-init c = record {
  own = λ l. c.begin-at.ensures.own (omega (arith, l, length-map c.args.rows.now batch_in));
  told = sym (last_reached c.args.rows.now c.args.batch c.args.line 0 c.begin-at.result c.begin-at.ensures ∙ last_none c.args.rows.now c.args.batch c.args.line);
}

pub loop-at-preserved : goal.loop-at-preserved
loop-at-preserved c =
    let rows = c.args.rows.now in
    let at : ℕ = c.loop-at.at in
    let row : DeclarationRow = c.index-rows-at.result in
    let test = is_by c.args.batch c.args.line in
    let own = c.loop-at.invariant.own c.loop-at-test.true in
    let x : IsReached (batches rows) (at + 1) c.args.batch c.step-at.result = subst (λ b. IsReached (batches rows) (at + 1) b c.step-at.result) own c.step-at.ensures in
    let read : get_or rows at row ≡ row = sym c.index-rows-at.is in
    let before : Option DeclarationRow = find test (reverse (take at rows)) in
    let more : find test (reverse (take c.step-at.result rows)) ≡ cond (test row) (Some row) before =
    last_reached rows c.args.batch c.args.line (at + 1) c.step-at.result x ∙ last_more test rows at row c.loop-at-test.true ∙ ap (λ (r : DeclarationRow). cond (test r) (Some r) before) read in
    record {
      own = λ l. x.own (omega (arith, l, length-map rows batch_in));
      told = elim c.if-is_by.branch [
        | then-is_by w ↦ w.last-is ∙ sym (more ∙ cond-true (test row) (Some row) before (sym c.is_by.ensures ∙ w.if-is_by.true))
        | else-is_by w ↦ w.last-is ∙ c.loop-at.invariant.told ∙ sym (more ∙ cond-false (test row) (Some row) before (sym c.is_by.ensures ∙ w.if-is_by.false))
      ];
    }

pub returns : goal.returns
returns c =
    c.loop-at.invariant.told
    ∙ ap (λ xs. find (is_by c.args.batch c.args.line) (reverse xs)) (take_all c.loop-at.at c.args.rows.now c.loop-at-test.false)
