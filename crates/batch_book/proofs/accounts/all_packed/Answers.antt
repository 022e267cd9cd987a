use Rattle.std.proofs.Common.{length, sym, subst, All}
use Rattle.pack_tree.specs.Packing.{IsThereIn}
use Rattle.batch_book.specs.Content.{content_of}
use Rattle.batch_book.proofs.Findings.{unpacked_there, unpacked_nowhere}
use Rattle.batch_book.proofs.accounts.all_packed.Goals as goal

pub returns-in-Some : goal.returns-in-Some
returns-in-Some c =
    let tree = c.args.tree.now in
    let there = subst (λ n. All (IsThereIn n (length tree.units)) tree.pairs) c.requires.items c.tell_there.ensures in
    sym (unpacked_there (content_of c.args.book.now c.args.items.now tree) c.tell_named.ensures.apart c.tell_named.ensures.named c.args.batch c.requires.range c.tell_apart.ensures c.tell_apart-2.ensures there c.in-Some.at c.row.result c.in-Some.ensures c.row.ensures.is)

pub returns-in-None : goal.returns-in-None
returns-in-None c =
    let tree = c.args.tree.now in
    let there = subst (λ n. All (IsThereIn n (length tree.units)) tree.pairs) c.requires.items c.tell_there.ensures in
    sym (unpacked_nowhere (content_of c.args.book.now c.args.items.now tree) c.tell_named.ensures.apart c.tell_named.ensures.named c.args.batch c.requires.range c.tell_apart.ensures c.tell_apart-2.ensures there c.in-None.ensures)
