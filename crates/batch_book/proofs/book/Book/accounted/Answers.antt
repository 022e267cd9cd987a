use Rattle.deed_words.specs.Accounted.{IsAccounted}
use Rattle.batch_book.specs.Content.{world_of, name_at}
use Rattle.batch_book.proofs.Owing.{ok_is}
use Rattle.batch_book.proofs.book.Book.accounted.Goals as goal

pub returns-clause-ok : goal.returns-clause-ok
returns-clause-ok c = λ site l.
    let w = world_of c.args.self.now c.args.items.now c.args.tree.now in
    let name = name_at c.args.self.now.batches c.args.batch in
    ok_is c.accounted.result _ (IsAccounted site w name) (c.accounted.ensures site l) (c.closes_where_accounted.ensures.account site w name)
