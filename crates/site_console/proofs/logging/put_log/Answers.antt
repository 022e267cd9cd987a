use Rattle.std.proofs.Common.{◌≡◌, ◌<◌, ◌≤◌, ◌+◌, ◌-◌, [], ℕ, Ok, Err, length, drop, take, get_or, ap, refl, ◌∙◌, arith}
use Rattle.std.proofs.lemmas.Result.{err_from_is_err_and}
use Rattle.site_console.specs.Logs.{joined, log_lines, log_text}
use Rattle.site_console.proofs.Causing.{write_carried}
use Rattle.site_console.proofs.LogLines.{as_many_lines, next_line}
use Rattle.site_console.proofs.Putting.{none_put}
use Rattle.site_console.proofs.Ranges.{range_is}
use Rattle.site_console.proofs.Saying.{no_fault, part_more, part_stopped, part_whole, said_as, unsaid}
use Rattle.site_console.proofs.logging.put_log.Goals as goal

pub returns-in_default-clause-said : goal.returns-in_default-clause-said
returns-in_default-clause-said g c = unsaid (Unit {0}) _ _

pub returns-in_default-clause-write : goal.returns-in_default-clause-write
returns-in_default-clause-write g c = no_fault _

pub entries-init : goal.entries-init
entries-init g c = record { part = none_put _ _; faults = refl; low = omega arith }

pub put_line-requires : goal.put_line-requires
put_line-requires g c = omega (arith, c.in-Ok.ensures, c.past_place-past.ensures, c.entries-test.true)

pub returns-in_err-put_line-clause-said : goal.returns-in_err-put_line-clause-said
unfolding log_text
returns-in_err-put_line-clause-said g c =
    let site = c.args.site.now in
    let lines = log_lines site.setup site.history in
    let first = c.first_place-first.result in
    let past = c.past_place-past.result in
    let place = c.entries.place in
    let p = err_from_is_err_and c.from_residual.result c.from_residual.ensures.1 in
    let within : place < length lines = omega (arith, c.in-Ok.ensures, c.past_place-past.ensures, c.entries-test.true, as_many_lines site.setup site.history) in
    let few : length lines ≤ c.in-Ok.entries = omega (arith, c.in-Ok.ensures, as_many_lines site.setup site.history) in
    rw (p.1, p.2) (said_as (Unit {0}) _ _ _ _ (Err c.in_err-put_line.field-0.0) (ap joined (range_is lines c.args.from c.args.count c.in-Ok.entries first past few c.first_place-first.ensures c.past_place-past.ensures))
    (part_stopped (Unit {0}) (Unit {0}) _ _ _ _ _ (get_or lines place []) (joined (take (past - (place + 1)) (drop (place + 1) lines))) c.in_err-put_line.field-0.0 c.entries.invariant.part (next_line lines place past c.entries-test.true within) c.in_err-put_line.ensures.said))

pub returns-in_err-put_line-clause-write : goal.returns-in_err-put_line-clause-write
returns-in_err-put_line-clause-write g c =
    let p = err_from_is_err_and c.from_residual.result c.from_residual.ensures.1 in
    rw (p.1, p.2) (write_carried (Unit {0}) (Unit {0}) c.in_err-put_line.field-0.0 _ _ _ c.entries.invariant.faults c.in_err-put_line.ensures.write)

pub entries-preserved : goal.entries-preserved
entries-preserved g c =
    let site = c.args.site.now in
    let lines = log_lines site.setup site.history in
    let past = c.past_place-past.result in
    let place = c.entries.place in
    let within : place < length lines = omega (arith, c.in-Ok.ensures, c.past_place-past.ensures, c.entries-test.true, as_many_lines site.setup site.history) in
    record {
      part = part_more _ _ _ _ _ (get_or lines place []) (joined (take (past - (place + 1)) (drop (place + 1) lines))) c.entries.invariant.part (next_line lines place past c.entries-test.true within) c.in_ok-put_line.ensures.said;
      faults = c.in_ok-put_line.ensures.write.kept ∙ c.entries.invariant.faults;
      low = omega (arith, c.entries.invariant.low);
    }

pub returns-clause-said : goal.returns-clause-said
unfolding log_text
returns-clause-said g c =
    let site = c.args.site.now in
    let lines = log_lines site.setup site.history in
    let first = c.first_place-first.result in
    let past = c.past_place-past.result in
    let place = c.entries.place in
    let few : length lines ≤ c.in-Ok.entries = omega (arith, c.in-Ok.ensures, as_many_lines site.setup site.history) in
    let none : past - place ≡ 0 = omega (arith, c.entries-test.false) in
    said_as (Unit {0}) _ _ _ _ (Ok tt) (ap joined (range_is lines c.args.from c.args.count c.in-Ok.entries first past few c.first_place-first.ensures c.past_place-past.ensures))
    (part_whole _ _ _ _ c.entries.invariant.part (ap (λ (n : ℕ). joined (take n (drop place lines))) none))

pub returns-clause-write : goal.returns-clause-write
returns-clause-write g c = record { later = omega (arith, c.entries.invariant.faults); failed = tt; kept = c.entries.invariant.faults }
