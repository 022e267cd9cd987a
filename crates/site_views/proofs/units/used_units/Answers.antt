use Rattle.std.proofs.Common.{ℕ, ◌+◌, ◌∷◌, List, sym, subst, ◌∙◌, arith}
use Rattle.site_views.specs.Own.{is_in_use}
use Rattle.site_views.proofs.Counted.{IsCounted, begins, is_there, one_more, none_more, fits, ends}
use Rattle.site_views.proofs.units.used_units.Goals as goal

pub loop-unit-init : goal.loop-unit-init
loop-unit-init c = begins c.args.batch (is_in_use c.args.level) c.args.tree.now.units _ (c.into_iter-unit-iterator.ensures.into_iter_gives ∙ c.units_of-unit-items.ensures)

pub unit-row-requires : goal.unit-row-requires
unit-row-requires c =
    let test = is_in_use c.args.level in
    let units = c.args.tree.now.units in
    let w : IsCounted c.args.batch test units (c.in-Some.unit ∷ c.next.new.self) c.loop-unit.count = subst (λ (ns : List ℕ). IsCounted c.args.batch test units ns c.loop-unit.count) c.in-Some.ensures.steps c.loop-unit.invariant in
    is_there c.args.batch test units c.in-Some.unit c.next.new.self c.loop-unit.count w

pub overflow_add-count : goal.overflow_add-count
overflow_add-count c =
    let test = is_in_use c.args.level in
    let units = c.args.tree.now.units in
    let w : IsCounted c.args.batch test units (c.in-Some.unit ∷ c.next.new.self) c.loop-unit.count = subst (λ (ns : List ℕ). IsCounted c.args.batch test units ns c.loop-unit.count) c.in-Some.ensures.steps c.loop-unit.invariant in
    let v = one_more c.args.batch test units c.in-Some.unit c.next.new.self c.loop-unit.count c.unit-row.result w c.unit-row.ensures (sym c.is_in_use.ensures ∙ c.if-is_in_use.true) in
    let few = fits c.args.batch test units c.next.new.self (c.loop-unit.count + 1) v in
    omega (arith, few, c.len-most.ensures)

pub loop-unit-preserved-then-is_in_use : goal.loop-unit-preserved-then-is_in_use
loop-unit-preserved-then-is_in_use c =
    let test = is_in_use c.args.level in
    let units = c.args.tree.now.units in
    let w : IsCounted c.args.batch test units (c.in-Some.unit ∷ c.next.new.self) c.loop-unit.count = subst (λ (ns : List ℕ). IsCounted c.args.batch test units ns c.loop-unit.count) c.in-Some.ensures.steps c.loop-unit.invariant in
    one_more c.args.batch test units c.in-Some.unit c.next.new.self c.loop-unit.count c.unit-row.result w c.unit-row.ensures (sym c.is_in_use.ensures ∙ c.if-is_in_use.true)

pub loop-unit-preserved : goal.loop-unit-preserved
loop-unit-preserved c =
    let test = is_in_use c.args.level in
    let units = c.args.tree.now.units in
    let w : IsCounted c.args.batch test units (c.in-Some.unit ∷ c.next.new.self) c.loop-unit.count = subst (λ (ns : List ℕ). IsCounted c.args.batch test units ns c.loop-unit.count) c.in-Some.ensures.steps c.loop-unit.invariant in
    none_more c.args.batch test units c.in-Some.unit c.next.new.self c.loop-unit.count c.unit-row.result w c.unit-row.ensures (sym c.is_in_use.ensures ∙ c.if-is_in_use.false)

pub returns : goal.returns
returns c = ends c.args.batch (is_in_use c.args.level) c.args.tree.now.units c.loop-unit.unit-iterator c.loop-unit.count c.loop-unit.invariant c.in-None.ensures.steps.0
