use Rattle.std.proofs.Common.{◌∙◌, List, map, ap, subst}
use Rattle.deed_words.specs.Names.{Text}
use Rattle.site_sim.specs.Asking.{IsFair, printed}
use Rattle.site_sim.proofs.Fair.{cases_proper, codes_proper, order_proper}
use Rattle.site_sim.proofs.asking.deed_of.Goals as goal

pub returns-in-Order-clause-proper : goal.returns-in-Order-clause-proper
returns-in-Order-clause-proper c = order_proper c.order.result c.in-Order.quantity (subst IsFair c.in-Order.is c.requires.fair) c.order.ensures

pub returns-in_ok-codes-in-Commission-clause-proper :
    goal.returns-in_ok-codes-in-Commission-clause-proper
returns-in_ok-codes-in-Commission-clause-proper c =
    codes_proper c.args.lent.now c.in-Commission.part c.in_ok-codes-in-Commission.codes (subst IsFair c.in-Commission.is c.requires.fair)
    (c.in_ok-codes-in-Commission.ensures ∙ ap (λ (xs : List Text). map printed xs) c.part_of.ensures)

pub returns-in_ok-units-in-PackCases-clause-proper :
    goal.returns-in_ok-units-in-PackCases-clause-proper
returns-in_ok-units-in-PackCases-clause-proper c =
    cases_proper c.in-PackCases.place c.in-PackCases.part c.in_ok-units-in-PackCases.units (subst IsFair c.in-PackCases.is c.requires.fair) c.in_ok-units-in-PackCases.ensures
