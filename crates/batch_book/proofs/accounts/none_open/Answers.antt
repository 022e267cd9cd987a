use Rattle.std.proofs.Common.{sym}
use Rattle.batch_book.specs.Content.{content_of}
use Rattle.batch_book.proofs.Findings.{open_there, open_nowhere}
use Rattle.batch_book.proofs.accounts.none_open.Goals as goal

pub returns-in-Some : goal.returns-in-Some
returns-in-Some c = λ items.
    sym (open_there (content_of c.args.book.now items c.args.tree.now) c.tell_named.ensures.apart c.tell_named.ensures.named c.args.batch c.requires c.in-Some.at c.unit.result c.in-Some.ensures c.unit.ensures)

pub returns-in-None : goal.returns-in-None
returns-in-None c = λ items.
    sym (open_nowhere (content_of c.args.book.now items c.args.tree.now) c.tell_named.ensures.apart c.tell_named.ensures.named c.args.batch c.requires c.in-None.ensures)
