use Rattle.std.proofs.Common.{ℕ, ◌∷◌, List, Some, sym, ap, subst, ◌∙◌}
use Rattle.batch_book.specs.Closing.{shows, is_shown}
use Rattle.batch_book.proofs.Walked.{IsWalked, walk_there, walk_found, walk_missed, walk_ends}
use Rattle.batch_book.proofs.packed.first_unit.Goals as goal

pub unit-row-requires : goal.unit-row-requires
unit-row-requires c =
    let test = is_shown c.args.batch c.args.fault c.args.tree.now.pairs in
    let w : IsWalked c.args.batch test c.args.tree.now.units (c.in-Some.unit ∷ c.next.new.self) c.loop-unit.first =
    subst (λ (ns : List ℕ). IsWalked c.args.batch test c.args.tree.now.units ns c.loop-unit.first) c.in-Some.ensures.steps c.loop-unit.invariant in
    walk_there c.args.batch test c.args.tree.now.units c.in-Some.unit c.next.new.self c.loop-unit.first w

pub loop-unit-preserved-then-shows : goal.loop-unit-preserved-then-shows
loop-unit-preserved-then-shows c =
    let links = c.args.tree.now.pairs in
    let units = c.args.tree.now.units in
    let test = is_shown c.args.batch c.args.fault links in
    let w : IsWalked c.args.batch test units (c.in-Some.unit ∷ c.next.new.self) c.loop-unit.first =
    subst (λ (ns : List ℕ). IsWalked c.args.batch test units ns c.loop-unit.first) c.in-Some.ensures.steps c.loop-unit.invariant in
    let own = ap (λ (k : ℕ). shows c.args.fault links k c.unit-row.result) (sym c.unit.view_is) ∙ sym c.shows.ensures ∙ c.if-shows.true in
    subst (λ (k : ℕ). IsWalked c.args.batch test units c.next.new.self (Some k)) (sym c.unit.view_is)
    (walk_found c.args.batch (shows c.args.fault links) units c.in-Some.unit c.next.new.self c.loop-unit.first c.unit-row.result w c.unit-row.ensures own)

pub loop-unit-preserved : goal.loop-unit-preserved
loop-unit-preserved c =
    let links = c.args.tree.now.pairs in
    let units = c.args.tree.now.units in
    let test = is_shown c.args.batch c.args.fault links in
    let w : IsWalked c.args.batch test units (c.in-Some.unit ∷ c.next.new.self) c.loop-unit.first =
    subst (λ (ns : List ℕ). IsWalked c.args.batch test units ns c.loop-unit.first) c.in-Some.ensures.steps c.loop-unit.invariant in
    let own = ap (λ (k : ℕ). shows c.args.fault links k c.unit-row.result) (sym c.unit.view_is) ∙ sym c.shows.ensures ∙ c.if-shows.false in
    walk_missed c.args.batch (shows c.args.fault links) units c.in-Some.unit c.next.new.self c.loop-unit.first c.unit-row.result w c.unit-row.ensures own

pub returns : goal.returns
returns c = walk_ends c.args.batch (shows c.args.fault c.args.tree.now.pairs) c.args.tree.now.units c.loop-unit.first c.loop-unit.unit-iterator c.in-None.ensures.steps.0 c.loop-unit.invariant
