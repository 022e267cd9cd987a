use Rattle.std.proofs.Common.{sym, subst}
use Rattle.site_service.specs.Doors.{AreUnopened}
use Rattle.server_tests.proofs.Opening.{unopened_put}
use Rattle.server_tests.proofs.site_tests.push_door.Goals as goal

pub returns : goal.returns
returns g c = subst (λ doors. AreUnopened g.G.Door.state doors) (sym c.push.ensures.items) (unopened_put g.G.Door.state c.args.doors.now.items c.args.door _ c.requires.unopened c.requires.door)
