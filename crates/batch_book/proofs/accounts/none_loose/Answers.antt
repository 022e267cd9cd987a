use Rattle.std.proofs.Common.{length, sym, subst, ◌∙◌, All}
use Rattle.std.proofs.lemmas.Option.{slice_get_within}
use Rattle.pack_tree.specs.Packing.{IsThereIn}
use Rattle.batch_book.specs.Content.{content_of}
use Rattle.batch_book.proofs.Findings.{loose_there, loose_nowhere, no_pallets}
use Rattle.batch_book.proofs.accounts.none_loose.Goals as goal

pub returns-then-not-has_pallets : goal.returns-then-not-has_pallets
returns-then-not-has_pallets c =
    let tree = c.args.tree.now in
    let there = subst (λ n. All (IsThereIn n (length tree.units)) tree.pairs) c.requires.items c.tell_there.ensures in
    sym (no_pallets (content_of c.args.book.now c.args.items.now tree) c.tell_named.ensures.apart c.tell_named.ensures.named c.args.batch c.requires.range c.tell_apart.ensures c.tell_apart-2.ensures there c.batch-kept.result c.batch-kept.ensures (sym c.has_pallets.ensures ∙ c.if-not-has_pallets.true))

pub unit-requires : goal.unit-requires
unit-requires c = slice_get_within c.args.tree.now.units c.in-Some.at c.in-Some.ensures.0.0 c.in-Some.ensures.0.1

pub returns-in-Some : goal.returns-in-Some
returns-in-Some c =
    let tree = c.args.tree.now in
    let there = subst (λ n. All (IsThereIn n (length tree.units)) tree.pairs) c.requires.items c.tell_there.ensures in
    sym (loose_there (content_of c.args.book.now c.args.items.now tree) c.tell_named.ensures.apart c.tell_named.ensures.named c.args.batch c.requires.range c.tell_apart.ensures c.tell_apart-2.ensures there c.batch-kept.result c.batch-kept.ensures c.in-Some.at c.unit.result (sym c.has_pallets.ensures ∙ c.if-not-has_pallets.false) c.in-Some.ensures c.unit.ensures)

pub returns-in-None : goal.returns-in-None
returns-in-None c =
    let tree = c.args.tree.now in
    let there = subst (λ n. All (IsThereIn n (length tree.units)) tree.pairs) c.requires.items c.tell_there.ensures in
    sym (loose_nowhere (content_of c.args.book.now c.args.items.now tree) c.tell_named.ensures.apart c.tell_named.ensures.named c.args.batch c.requires.range c.tell_apart.ensures c.tell_apart-2.ensures there c.batch-kept.result c.batch-kept.ensures (sym c.has_pallets.ensures ∙ c.if-not-has_pallets.false) c.in-None.ensures)
