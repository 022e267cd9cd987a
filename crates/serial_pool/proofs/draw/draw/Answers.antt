use Rattle.std.proofs.Common.{◌<◌, length, arith, sym, ◌∙◌}
use Rattle.std.proofs.lemmas.Result.{err_from_is_err_and}
use Rattle.std.proofs.lemmas.List.{length_push}
use Rattle.serial_pool.specs.Held.{had_of}
use Rattle.serial_pool.proofs.Sofar.{one_more_new, one_more_old, one_more_any}
use Rattle.serial_pool.proofs.draw.draw.Goals as goal

pub returns-in_err-push-clause-draw : goal.returns-in_err-push-clause-draw
returns-in_err-push-clause-draw g c =
    let p = err_from_is_err_and c.from_residual.result c.from_residual.ensures.1 in
    rw (p.1, p.2) (one_more_any _ _ _ (had_of c.args.gtin.now c.args.drawn.now) c.args.form.now c.args.count c.loop-found.serials c.loop-found.used c.in-Ok.word _ c.loop-found.invariant.sofar c.in-Ok.ensures.word (omega arith))

pub loop-found-preserved-in-Some : goal.loop-found-preserved-in-Some
loop-found-preserved-in-Some g c =
    let few : length c.loop-found.serials < c.args.count = omega arith in
    record {
      sofar = rw c.in_ok-push.ensures (one_more_new _ _ _ (had_of c.args.gtin.now c.args.drawn.now) c.args.form.now c.args.count c.loop-found.serials c.loop-found.used c.in-Ok.word c.in-Some.serial c.loop-found.invariant.sofar c.in-Ok.ensures.word few c.in-Some.ensures);
      found = rw (c.in_ok-push.ensures, length_push) (omega arith);
      within = omega arith;
      count = omega arith;
      faults = c.in-Ok.ensures.cause.kept ∙ c.loop-found.invariant.faults;
    }

pub loop-found-preserved : goal.loop-found-preserved
loop-found-preserved g c =
    let few : length c.loop-found.serials < c.args.count = omega arith in
    record {
      sofar = one_more_old _ _ _ (had_of c.args.gtin.now c.args.drawn.now) c.args.form.now c.args.count c.loop-found.serials c.loop-found.used c.in-Ok.word c.loop-found.invariant.sofar c.in-Ok.ensures.word few (sym c.in_default-new_serial.is ∙ c.new_serial.ensures);
      found = omega arith;
      within = omega arith;
      count = omega arith;
      faults = c.in-Ok.ensures.cause.kept ∙ c.loop-found.invariant.faults;
    }
