use Rattle.site_deeds.proofs.OfBatch.{amend_does}
use Rattle.site_deeds.proofs.batches.amend.Goals as goal

pub returns : goal.returns
returns c = λ name found.
    amend_does c.args.stores.now c.plain.result name c.args.batch c.batch_at-old.result c.tell_whole.ensures found c.batch_at-old.ensures c.plain.ensures.answer c.args.quantity (c.requires.working c.batch_at-old.result c.batch_at-old.ensures) c.plain.ensures.change
