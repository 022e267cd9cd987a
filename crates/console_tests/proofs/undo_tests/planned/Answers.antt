use Rattle.console_tests.proofs.Turning.{next_on}
use Rattle.console_tests.proofs.undo_tests.planned.Goals as goal

pub returns-clause-next : goal.returns-clause-next
returns-clause-next g c =
    let same = c.in-Ok.ensures.same in
    let site = c.args.site.now in
    next_on site.setup c.plan.new.self.setup site.history c.plan.new.self.history site.content c.plan.new.self.content c.in-Ok.planned same.0 same.1 same.2 c.in-Ok.ensures.plan.2.next
