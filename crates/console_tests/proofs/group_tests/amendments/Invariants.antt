use Rattle.site_store.specs.Asked.{AreOf}
use Rattle.console_tests.proofs.group_tests.amendments.Given as goal

abbrev pub invariant-asks : goal.invariant-asks
invariant-asks g l = AreOf l.setup l.asks.items
