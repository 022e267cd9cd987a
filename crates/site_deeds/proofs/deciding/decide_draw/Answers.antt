use Rattle.site_deeds.proofs.OfDecision.{failed_decides, undone_decides, draw_decides}
use Rattle.site_deeds.proofs.deciding.decide_draw.Goals as goal

pub returns-in-Err-clause-decides : goal.returns-in-Err-clause-decides
returns-in-Err-clause-decides g c =
    let e = c.in-Err.ensures.draw in
    (e.0, e.1, failed_decides c.args.setup.now c.args.stores.now.content c.args.station c.args.name.now c.args.count e.0 c.in-Err.fault c.requires.allowed e.2)

pub returns-in-Ok-decide_planned-clause-decides : goal.returns-in-Ok-decide_planned-clause-decides
returns-in-Ok-decide_planned-clause-decides g c =
    let e = c.in-Ok.ensures.draw in
    (e.0, e.1, draw_decides c.args.setup.now c.args.stores.now.content c.args.station c.args.name.now c.args.count c.in-Ok-decide_planned.decided c.in-Ok.plan e.0 c.requires.allowed c.in-Ok-decide_planned.ensures.decided e.2)

pub returns-in-Err-decide_planned-clause-decides : goal.returns-in-Err-decide_planned-clause-decides
returns-in-Err-decide_planned-clause-decides g c =
    let e = c.in-Ok.ensures.draw in
    (e.0, e.1, undone_decides c.args.setup.now c.args.stores.now.content c.args.station c.args.name.now c.args.count e.0 c.in-Ok.plan c.requires.allowed e.2)
