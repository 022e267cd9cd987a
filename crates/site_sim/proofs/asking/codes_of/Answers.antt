use Rattle.std.proofs.Common.{rules, ◌≡◌, get_or}
use Rattle.site_sim.specs.Asking.{printed}
use Rattle.site_sim.proofs.Cuts.{is_printed, put_on}
use Rattle.site_sim.proofs.asking.codes_of.Goals as goal

pub loop-serial-preserved : goal.loop-serial-preserved
loop-serial-preserved c =
    let xs = c.args.serials.now in
    let i = c.loop-serial.serial-index in
    let x = c.serial-item.result in
    let is : get_or xs i x ≡ x = search rules in
    put_on printed c.loop-serial.codes c.push.new.self _ xs i x _ c.loop-serial-test.true is
    (is_printed c.first_gtin-gtin.result x c.batch_name-lot.result c.first_gtin-gtin.ensures c.batch_name-lot.ensures) c.in_ok-push.ensures c.loop-serial.invariant
