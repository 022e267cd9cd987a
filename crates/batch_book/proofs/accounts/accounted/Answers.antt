use Rattle.std.specs.Result.{result_err}
use Rattle.std.proofs.lemmas.Result.{err_from_is_err_and}
use Rattle.batch_book.specs.Content.{content_of, name_at}
use Rattle.batch_book.proofs.Findings.{found_lent, found_rejected, found_unpacked, found_open, found_loose, found_silent, found_last}
use Rattle.batch_book.proofs.accounts.accounted.Goals as goal

pub returns-in_err-none_lent : goal.returns-in_err-none_lent
returns-in_err-none_lent c = λ site l.
    let p = err_from_is_err_and c.from_residual.result c.from_residual.ensures.1 in
    rw (p.1, p.2) (found_lent site (content_of c.args.book.now c.args.items.now c.args.tree.now) (name_at c.args.book.now.batches c.args.batch) c.in_err-none_lent.field-0.0 (c.in_err-none_lent.ensures c.args.tree.now))

pub returns-in_err-none_rejected : goal.returns-in_err-none_rejected
returns-in_err-none_rejected c = λ site l.
    let p = err_from_is_err_and c.from_residual-in_err-none_rejected.result c.from_residual-in_err-none_rejected.ensures.1 in
    rw (p.1, p.2) (found_rejected site (content_of c.args.book.now c.args.items.now c.args.tree.now) (name_at c.args.book.now.batches c.args.batch) (c.in_ok-none_lent.ensures c.args.tree.now) c.in_err-none_rejected.field-0.0 (c.in_err-none_rejected.ensures c.args.tree.now))

pub returns-in_err-all_packed : goal.returns-in_err-all_packed
returns-in_err-all_packed c = λ site l.
    let p = err_from_is_err_and c.from_residual-in_err-all_packed.result c.from_residual-in_err-all_packed.ensures.1 in
    rw (p.1, p.2) (found_unpacked site (content_of c.args.book.now c.args.items.now c.args.tree.now) (name_at c.args.book.now.batches c.args.batch) (c.in_ok-none_lent.ensures c.args.tree.now) (c.in_ok-none_rejected.ensures c.args.tree.now) c.in_err-all_packed.field-0.0 c.in_err-all_packed.ensures)

pub returns-in_err-none_open : goal.returns-in_err-none_open
returns-in_err-none_open c = λ site l.
    let p = err_from_is_err_and c.from_residual-in_err-none_open.result c.from_residual-in_err-none_open.ensures.1 in
    rw (p.1, p.2) (found_open site (content_of c.args.book.now c.args.items.now c.args.tree.now) (name_at c.args.book.now.batches c.args.batch) (c.in_ok-none_lent.ensures c.args.tree.now) (c.in_ok-none_rejected.ensures c.args.tree.now) c.in_ok-all_packed.ensures c.in_err-none_open.field-0.0 (c.in_err-none_open.ensures c.args.items.now))

pub returns-in_err-none_loose : goal.returns-in_err-none_loose
returns-in_err-none_loose c = λ site l.
    let p = err_from_is_err_and c.from_residual-in_err-none_loose.result c.from_residual-in_err-none_loose.ensures.1 in
    rw (p.1, p.2) (found_loose site (content_of c.args.book.now c.args.items.now c.args.tree.now) (name_at c.args.book.now.batches c.args.batch) (c.in_ok-none_lent.ensures c.args.tree.now) (c.in_ok-none_rejected.ensures c.args.tree.now) c.in_ok-all_packed.ensures (c.in_ok-none_open.ensures c.args.items.now) c.in_err-none_loose.field-0.0 c.in_err-none_loose.ensures)

pub returns-in_err-all_declared : goal.returns-in_err-all_declared
returns-in_err-all_declared c = λ site l.
    let p = err_from_is_err_and c.from_residual-in_err-all_declared.result c.from_residual-in_err-all_declared.ensures.1 in
    rw (p.1, p.2) (found_silent site (content_of c.args.book.now c.args.items.now c.args.tree.now) (name_at c.args.book.now.batches c.args.batch) (c.in_ok-none_lent.ensures c.args.tree.now) (c.in_ok-none_rejected.ensures c.args.tree.now) c.in_ok-all_packed.ensures (c.in_ok-none_open.ensures c.args.items.now) c.in_ok-none_loose.ensures c.in_err-all_declared.field-0.0 (c.in_err-all_declared.ensures c.args.tree.now site l))

pub returns : goal.returns
returns c = λ site l.
    found_last site (content_of c.args.book.now c.args.items.now c.args.tree.now) (name_at c.args.book.now.batches c.args.batch) (c.in_ok-none_lent.ensures c.args.tree.now) (c.in_ok-none_rejected.ensures c.args.tree.now) c.in_ok-all_packed.ensures (c.in_ok-none_open.ensures c.args.items.now) c.in_ok-none_loose.ensures (result_err c.all_as_declared.result) (c.in_ok-all_declared.ensures c.args.tree.now site l) (c.all_as_declared.ensures c.args.tree.now site l)
