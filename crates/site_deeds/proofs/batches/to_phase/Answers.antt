use Rattle.site_deeds.proofs.OfBatch.{to_phase_does}
use Rattle.site_deeds.proofs.batches.to_phase.Goals as goal

pub returns : goal.returns
returns c = λ name found.
    to_phase_does c.args.stores.now c.plain.result name c.args.batch c.batch_at-old.result c.tell_whole.ensures found c.batch_at-old.ensures c.plain.ensures.answer c.args.phase c.plain.ensures.change
