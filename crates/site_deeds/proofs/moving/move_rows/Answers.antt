use Rattle.deed_words.specs.Deeds.{named}
use Rattle.batch_book.specs.Content.{world_in}
use Rattle.site_deeds.proofs.OfRows.{move_does}
use Rattle.site_deeds.proofs.moving.move_rows.Goals as goal

pub returns : goal.returns
returns c =
    move_does c.args.stores.now c.plain.result c.args.deed.now (named (world_in c.args.stores.now.content) c.args.deed.now) c.args.places.now c.in_ok-turns.turns c.tell_whole.ensures c.requires.once c.requires.places c.in_ok-turns.ensures c.plain.ensures.answer c.plain.ensures.change
