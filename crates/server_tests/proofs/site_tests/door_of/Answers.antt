use Rattle.server_tests.proofs.Opening.{unopened_new, few_put}
use Rattle.server_tests.proofs.site_tests.door_of.Goals as goal

pub returns : goal.returns
returns g c = unopened_new _ _ _ c.new-2.ensures.state (few_put _ _ _ _ c.new-links.ensures.items c.push.ensures.items)
