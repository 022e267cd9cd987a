use Rattle.std.proofs.Common.{Some, sym, ap, ◌∙◌}
use Rattle.deed_words.specs.Names.{same}
use Rattle.deed_words.specs.declared.rule.Finding.TheVariants.{DeclaredDiffers}
use Rattle.item_store.specs.Rows.{line_counts_of}
use Rattle.batch_book.proofs.Owing.{agreed, differed}
use Rattle.batch_book.proofs.lines.differing.Goals as goal

pub returns-then-same_numbers : goal.returns-then-same_numbers
returns-then-same_numbers c =
    sym (agreed _ _ c.in-Some.declared (line_counts_of c.args.batch c.args.line c.args.items.now.rows) c.args.line (sym c.was_lent.ensures ∙ c.if-not-was_lent.false) (sym c.declared.ensures ∙ c.in-Some.is)
    (ap (same c.in-Some.declared) (sym c.line_counts-counted.ensures) ∙ sym c.same_numbers.ensures ∙ c.if-same_numbers.true))

pub returns-else-same_numbers : goal.returns-else-same_numbers
returns-else-same_numbers c =
    ap (λ ns. Some (DeclaredDiffers c.args.line ns c.in-Some.declared)) c.line_counts-counted.ensures
    ∙ sym (differed _ _ c.in-Some.declared (line_counts_of c.args.batch c.args.line c.args.items.now.rows) c.args.line (sym c.was_lent.ensures ∙ c.if-not-was_lent.false) (sym c.declared.ensures ∙ c.in-Some.is)
    (ap (same c.in-Some.declared) (sym c.line_counts-counted.ensures) ∙ sym c.same_numbers.ensures ∙ c.if-same_numbers.false))
