use Rattle.site_core.proofs.Entering.{stamp_is, no_stamp}
use Rattle.site_core.proofs.site.stamp_of_last.Goals as goal

pub returns-in-Some : goal.returns-in-Some
returns-in-Some c = λ told. stamp_is told c.args.kept.now c.in-Some.last.now c.in-Some.ensures.value

pub returns-in-None : goal.returns-in-None
returns-in-None c = λ told. no_stamp told c.args.kept.now c.in-None.ensures.value
