use Rattle.std.proofs.Common.{List, sym, subst}
use Rattle.deed_words.specs.declared.entry.Ask.{Ask}
use Rattle.site_store.specs.Asked.{AreOf}
use Rattle.console_tests.proofs.Asking.{are_put}
use Rattle.console_tests.proofs.group_tests.put.Goals as goal

pub returns-then-good : goal.returns-then-good
returns-then-good g c =
    let is = c.is_of-good.ensures c.if-good.true in
    subst (λ (asks : List Ask). AreOf c.args.setup.now asks) (sym c.push.ensures.items) (are_put c.args.setup.now c.args.asks.now.items c.args.ask _ c.requires is.0 is.1)
