use Rattle.std.proofs.Common.{◌≡◌, List, rules, get_or, sym, ap, subst, ◌∙◌}
use Rattle.serial_pool.specs.declared.tally.GtinCount.{GtinCount}
use Rattle.serial_pool.specs.Index.{count_of}
use Rattle.serial_pool.proofs.Tallies.{among_none, count_none, count_at}
use Rattle.serial_pool.proofs.tally.Tally.count.Goals as goal

pub returns-in-Some : goal.returns-in-Some
returns-in-Some c =
    let row = c.index.result.now in
    let found = rw (c.deref.ensures.value) at c.in-Some.ensures.found in
    let here : get_or c.self.inside.rows.items c.in-Some.at row ≡ row = search rules in
    sym (ap (count_of c.args.gtin.now) (sym c.self.view_is) ∙ count_at c.self.inside.rows.items c.in-Some.at row c.args.gtin.now c.self.invariant.apart found.0 (found.1 row) ∙ ap (λ (r : GtinCount). r.drawn) here)

pub returns-in-None : goal.returns-in-None
returns-in-None c =
    let none = rw (c.deref.ensures.value) at c.in-None.ensures.absent in
    sym (ap (count_of c.args.gtin.now) (sym c.self.view_is) ∙ count_none c.self.inside.rows.items c.args.gtin.now (among_none c.self.inside.rows.items c.args.gtin.now none))
