use Rattle.std.proofs.Common.{sym}
use Rattle.batch_book.specs.Content.{content_of}
use Rattle.batch_book.proofs.Findings.{lent_there, lent_nowhere}
use Rattle.batch_book.proofs.accounts.none_lent.Goals as goal

pub returns-in-Some : goal.returns-in-Some
returns-in-Some c = λ tree.
    sym (lent_there (content_of c.args.book.now c.args.items.now tree) c.tell_named.ensures.apart c.tell_named.ensures.named c.args.batch c.requires c.in-Some.item c.row.result (sym c.in-Some.ensures) c.row.ensures.is)

pub returns-in-None : goal.returns-in-None
returns-in-None c = λ tree.
    sym (lent_nowhere (content_of c.args.book.now c.args.items.now tree) c.tell_named.ensures.apart c.tell_named.ensures.named c.args.batch c.requires (sym c.in-None.ensures))
