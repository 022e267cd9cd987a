use Rattle.std.proofs.Common.{drop, sym, ap, ◌∙◌}
use Rattle.deed_words.specs.declared.words.State.TheVariants.{Fresh}
use Rattle.item_store.specs.Rows.{is_in, places_of}
use Rattle.item_store.proofs.Places.{fresh_behind}
use Rattle.item_store.proofs.Walks.{walked}
use Rattle.item_store.proofs.cursors.start.Goals as goal

pub returns-then-not-is_of-clause-fresh : goal.returns-then-not-is_of-clause-fresh
returns-then-not-is_of-clause-fresh c = sym (walked c.args.rows.now c.args.batch Fresh 0 c.begin.result c.begin.ensures)

pub returns-else-at-rows-clause-fresh : goal.returns-else-at-rows-clause-fresh
returns-else-at-rows-clause-fresh c =
    ap (λ n. places_of (is_in c.args.batch Fresh) n (drop n c.args.rows.now)) c.cursor_of-at.ensures
    ∙ sym (fresh_behind c.args.rows.now c.args.cursors.now c.args.batch c.requires.behind)
