use Rattle.std.proofs.Common.{◌<◌, arith, slice_index}
use Rattle.deed_json.proofs.Ascii.{sscc_is_ascii}
use Rattle.deed_json.proofs.value.container_urn.Goals as goal

pub prove-unreachable-requires : goal.prove-unreachable-requires
prove-unreachable-requires c =
    let high = c.if-prove.ensures.cases in
    let low : slice_index c.digits.result.now high.0 < 128 = rw c.digits.ensures.is (sscc_is_ascii c.args.sscc.now c.digits.ensures.valid high.0) in
    omega (arith, high.1, low)
