use Rattle.batch_book.specs.Content.{world_in}
use Rattle.site_deeds.proofs.OfDecision.{draw_none}
use Rattle.site_deeds.proofs.deciding.decide_known_draw.Goals as goal

pub returns-in-Err-clause-fault : goal.returns-in-Err-clause-fault
returns-in-Err-clause-fault c = λ f. draw_none c.args.setup.now (world_in c.args.stores.now.content) c.args.station c.args.name.now c.args.count c.args.drawn.now c.requires.allowed (c.in-Err.ensures.fault f)
