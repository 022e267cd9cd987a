use Rattle.std.proofs.Common.{◌≡◌, List, true, sym, ap, subst, ◌∙◌}
use Rattle.std.specs.Prelude.{is_ok}
use Rattle.gs1_keys.specs.Forms.{is_among}
use Rattle.serial_pool.specs.declared.tally.GtinCount.{GtinCount}
use Rattle.serial_pool.specs.Index.{count_of, gtins_of}
use Rattle.serial_pool.proofs.Tallies.{among_of, pushed_tally, pushed_counts, pushed_gtins, known_now}
use Rattle.serial_pool.proofs.tally.Tally.know.Goals as goal

pub invariant_of-self : goal.invariant_of-self
invariant_of-self c =
    let none = rw (c.deref.ensures.value) at c.in-None.ensures.absent in
    pushed_tally c.self.inside.rows.items c.put_row.new.rows.items c.self.inside.table c.put_row.new.table (is_ok c.put_row.result) c.args.gtin.now c.self.invariant none c.put_row.ensures.rows c.put_row.ensures.hashed

pub returns-in-Some-clause-known : goal.returns-in-Some-clause-known
returns-in-Some-clause-known c =
    let row : GtinCount = record { gtin = c.args.gtin.now; drawn = 0 } in
    let found = rw (c.deref.ensures.value) at c.in-Some.ensures.found in
    ap (λ (xs : List GtinCount). is_among (gtins_of xs) c.args.gtin.now) (sym c.self.view_is) ∙ among_of c.self.inside.rows.items c.in-Some.field-0 row c.args.gtin.now found.0 (found.1 row)

pub returns-in-None-clause-known : goal.returns-in-None-clause-known
returns-in-None-clause-known c = known_now c.self.inside.rows.items c.put_row.new.rows.items c.put_row.result c.args.gtin.now c.put_row.ensures.rows

pub returns-in-None-clause-counts : goal.returns-in-None-clause-counts
returns-in-None-clause-counts c = λ other. pushed_counts c.self.inside.rows.items c.put_row.new.rows.items (is_ok c.put_row.result) c.args.gtin.now other c.put_row.ensures.rows ∙ ap (count_of other) c.self.view_is
