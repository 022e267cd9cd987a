use Rattle.site_sim.proofs.Closed.{none_at, some_at}
use Rattle.site_sim.proofs.figures.count_closed.Goals as goal

pub returns-in_default : goal.returns-in_default
returns-in_default c = none_at c.args.site.now.setup c.args.site.now.history c.batch_name.result c.batch.result c.requires.setup c.batch_name.ensures c.batch.ensures c.in_default.is c.requires.named

pub returns : goal.returns
returns c =
    let s = c.args.site.now in
    some_at s.setup s.history c.batch_name.result c.batch.result c.in-Some.batch c.in_ok-view.view c.one_if_closed.result c.requires.setup c.batch_name.ensures c.batch.ensures c.in-Some.is c.requires.named
    c.tell_kept.ensures.sound c.in_ok-view.ensures c.one_if_closed.ensures
