use Rattle.std.proofs.Common.{◌≡◌, sym, ◌∙◌, arith}
use Rattle.std.proofs.lemmas.Grind.{common_steps}
use Rattle.gs1_keys.proofs.Weights.{from_left, weighted_from_left}
use Rattle.gs1_keys.proofs.check.weighted_sum.Goals as goal

pub returns : goal.returns
returns c =
    let all : c.loop-i.sum ≡ from_left c.args.digits.now = grind (arith, common_steps) in
    all ∙ sym (weighted_from_left c.args.digits.now)
