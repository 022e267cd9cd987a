use Rattle.std.proofs.Common.{ℕ, Some, None, sym, subst}
use Rattle.batch_book.specs.Content.{content_of}
use Rattle.batch_book.specs.Closing.{IsFirstFor, silent}
use Rattle.batch_book.proofs.Findings.{not_declared_is}
use Rattle.batch_book.proofs.accounts.all_declared.Goals as goal

pub returns-in-Some : goal.returns-in-Some
returns-in-Some c = λ tree site e.
    sym (not_declared_is (content_of c.args.book.now c.args.items.now tree) c.tell_named.ensures.apart c.tell_named.ensures.named c.args.batch c.requires site (Some c.in-Some.found)
    (subst (λ (n : ℕ). IsFirstFor (silent c.args.batch c.args.items.now.rows c.args.book.now.declarations) n (Some c.in-Some.found)) (sym e) c.in-Some.ensures))

pub returns-in-None : goal.returns-in-None
returns-in-None c = λ tree site e.
    sym (not_declared_is (content_of c.args.book.now c.args.items.now tree) c.tell_named.ensures.apart c.tell_named.ensures.named c.args.batch c.requires site None
    (subst (λ (n : ℕ). IsFirstFor (silent c.args.batch c.args.items.now.rows c.args.book.now.declarations) n None) (sym e) c.in-None.ensures))
