use Rattle.std.proofs.Common.{◌≡◌, ◌+◌, ◌-◌, ◌≤◌, ◌<◌, ◌^◌, List, length, get_or, set, rules, arith, cond, true, sym, ap, subst, ◌∙◌}
use Rattle.std.specs.Prelude.{bytes_eq, slice_set}
use Rattle.gs1_keys.specs.Forms.{is_among}
use Rattle.serial_pool.specs.declared.tally.GtinCount.{GtinCount}
use Rattle.serial_pool.specs.Index.{count_of, gtins_of}
use Rattle.serial_pool.proofs.Tallies.{count_at, gtins_set, still_tally, raised, lowered, known_row}
use Rattle.serial_pool.proofs.tally.Tally.lower.Goals as goal

pub overflow_sub-index_mut : goal.overflow_sub-index_mut
overflow_sub-index_mut c =
    let rows = c.self.inside.rows.items in
    let row = c.index_mut.result.now in
    let found = rw (c.deref.ensures.value) at c.in-Some.ensures.found in
    let here : get_or rows c.in-Some.at row ≡ row = search rules in
    let now : count_of c.args.gtin.now rows ≡ row.drawn = count_at rows c.in-Some.at row c.args.gtin.now c.self.invariant.apart found.0 (found.1 row) ∙ ap (λ (r : GtinCount). r.drawn) here in
    let same : count_of c.args.gtin.now c.args.self.now ≡ row.drawn = sym (ap (count_of c.args.gtin.now) c.self.view_is) ∙ now in
    omega (arith, same, c.requires.least)

pub invariant_of-self : goal.invariant_of-self
invariant_of-self c =
    let rows = c.self.inside.rows.items in
    let row = c.index_mut.result.now in
    let found = rw (c.deref.ensures.value) at c.in-Some.ensures.found in
    let here : get_or rows c.in-Some.at row ≡ row = search rules in
    still_tally rows _ c.self.inside.table c.self.invariant (gtins_set rows c.in-Some.at (row.drawn - c.args.fewer) row row.gtin found.0 (ap (λ (r : GtinCount). r.gtin) here))

pub returns-clause-gtins : goal.returns-clause-gtins
returns-clause-gtins c =
    let rows = c.self.inside.rows.items in
    let row = c.index_mut.result.now in
    let found = rw (c.deref.ensures.value) at c.in-Some.ensures.found in
    let here : get_or rows c.in-Some.at row ≡ row = search rules in
    gtins_set rows c.in-Some.at (row.drawn - c.args.fewer) row row.gtin found.0 (ap (λ (r : GtinCount). r.gtin) here) ∙ ap gtins_of c.self.view_is

pub returns-clause-counts : goal.returns-clause-counts
returns-clause-counts c = λ other.
    let rows = c.self.inside.rows.items in
    let row = c.index_mut.result.now in
    let found = rw (c.deref.ensures.value) at c.in-Some.ensures.found in
    let here : get_or rows c.in-Some.at row ≡ row = search rules in
    let own : row.gtin ≡ c.args.gtin.now = sym (ap (λ (r : GtinCount). r.gtin) here) ∙ found.1 row in
    let now : count_of c.args.gtin.now rows ≡ row.drawn = count_at rows c.in-Some.at row c.args.gtin.now c.self.invariant.apart found.0 (found.1 row) ∙ ap (λ (r : GtinCount). r.drawn) here in
    let same : count_of c.args.gtin.now c.args.self.now ≡ row.drawn = sym (ap (count_of c.args.gtin.now) c.self.view_is) ∙ now in
    lowered rows c.in-Some.at c.args.fewer row c.args.gtin.now other c.self.invariant.apart found.0 here own (omega (arith, same, c.requires.least)) ∙ ap (count_of other) c.self.view_is

pub unreachable-requires : goal.unreachable-requires
unreachable-requires c =
    let none = rw (c.deref.ensures.value) at c.in-None.ensures.absent in
    let known : is_among (gtins_of c.self.inside.rows.items) c.args.gtin.now ≡ true = ap (λ (xs : List GtinCount). is_among (gtins_of xs) c.args.gtin.now) c.self.view_is ∙ c.requires.known in
    known_row c.self.inside.rows.items c.args.gtin.now known none
