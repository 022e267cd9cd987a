use Rattle.std.proofs.Common.{◌≡◌, ◌≢◌, ◌≤◌, ◌+◌, ◌∙◌, ◌++◌, ◌∷◌, [], length, inr, ap, sym, arith, rules}
use Rattle.std.proofs.lemmas.List.{length-append}
use Rattle.site_files.specs.Orders.{rows_after}
use Rattle.site_files.specs.Left.{HasLeft}
use Rattle.site_files.proofs.Proper.{all_and_one}
use Rattle.site_files.proofs.Rows.{rows_end, rows_many, rows_fault, rows_more}
use Rattle.site_files.proofs.orders.read_rows.Goals as goal

pub returns-in-Ok-false-clause-is : goal.returns-in-Ok-false-clause-is
returns-in-Ok-false-clause-is c = λ recs left.
    let due = c.rows.invariant.due recs left in
    due.2 ∙ rows_end (HasLeft c.read_next.new.reader) _ _ due.0 _ c.in-Ok-false.field-0-test (c.in-Ok-false.ensures due.0 due.1)

pub returns-then-len-eq1000-clause-is : goal.returns-then-len-eq1000-clause-is
returns-then-len-eq1000-clause-is c = λ recs left.
    let due = c.rows.invariant.due recs left in
    let full : length c.rows.rows ≡ 1000 = search rules in
    inr (due.2 ∙ rows_many (HasLeft c.read_next.new.reader) _ _ due.0 _ c.in-Ok-true.field-0-test (c.in-Ok-true.ensures due.0 due.1) full)

pub returns-in-Err-read_row-clause-is : goal.returns-in-Err-read_row-clause-is
returns-in-Err-read_row-clause-is c = λ recs left.
    let due = c.rows.invariant.due recs left in
    let room : length c.rows.rows ≢ 1000 = omega arith in
    let line : c.len-in-rows.result + 2 ≡ length c.rows.rows + 2 = omega arith in
    inr (due.2 ∙ rows_fault (HasLeft c.read_next.new.reader) _ _ due.0 _ _ _ c.in-Ok-true.field-0-test (c.in-Ok-true.ensures due.0 due.1) room line c.in-Err-read_row.ensures.is)

pub rows-preserved : goal.rows-preserved
rows-preserved c =
    let room : length c.rows.rows ≢ 1000 = omega arith in
    let line : c.len-in-rows.result + 2 ≡ length c.rows.rows + 2 = omega arith in
    let items : c.push.new.self ≡ c.rows.rows ++ c.in-Ok.order ∷ [] = search rules in
    let few = c.rows.invariant.few in
    let one : length (c.rows.rows ++ c.in-Ok.order ∷ []) ≡ length c.rows.rows + 1 = length-append c.rows.rows (c.in-Ok.order ∷ []) in
    record {
      few = rw (items, one) (grind (arith, few, room));
      proper = rw items (all_and_one c.rows.rows c.in-Ok.order c.rows.invariant.proper c.in-Ok.ensures.proper);
      due = λ recs left.
          let due = c.rows.invariant.due recs left in
          let more = rows_more (HasLeft c.read_next.new.reader) _ _ due.0 _ _ _ c.in-Ok-true.field-0-test (c.in-Ok-true.ensures due.0 due.1) room line c.in-Ok.ensures.is in
          (more.0, more.1, due.2 ∙ more.2 ∙ ap (λ xs. rows_after xs more.0) (sym items));
    }
