use Rattle.std.proofs.Common.{◌≡◌, drop}
use Rattle.deed_words.specs.Chain.{each, each_from, first}
use Rattle.batch_book.specs.Content.{world_in}
use Rattle.site_rules.specs.Rows.{stray}
use Rattle.site_rules.proofs.things.first_stray.Given as goal

abbrev pub invariant-loop-index : goal.invariant-loop-index
invariant-loop-index l =
    let test = stray (world_in l.fn.stores.content) l.fn.name in
    each l.fn.codes test ≡ first (each_from l.index test (drop l.index l.fn.codes))
