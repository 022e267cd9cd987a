use Rattle.std.proofs.Common.{◌≡◌, ◌∙◌, ◌++◌, ◌∷◌, ◌+◌, ℕ, [], get_or, take, ap, arith, rules, true}
use Rattle.std.specs.Result.{is_ok}
use Rattle.std.proofs.lemmas.Grind.{common_steps}
use Rattle.serde_json.specs.Data.{array}
use Rattle.serde_json.proofs.Views.{view-Array}
use Rattle.deed_json.specs.Objects.{numbers_of}
use Rattle.deed_json.proofs.Arrays.{numbers_of-push}
use Rattle.deed_json.proofs.value.numbers_value.Goals as goal

pub loop-number-preserved : goal.loop-number-preserved
loop-number-preserved c =
    let good : is_ok c.push.result ≡ true = search rules in
    let items = rw good at c.push.ensures.items in
    let now : ℕ = get_or c.args.numbers.now c.loop-number.number-index 0 in
    let more : take (c.loop-number.number-index + 1) c.args.numbers.now ≡ take c.loop-number.number-index c.args.numbers.now ++ now ∷ [] = grind (arith, common_steps) in
    let step = numbers_of-push c.loop-number.list.items c.from.result (take c.loop-number.number-index c.args.numbers.now) now c.loop-number.invariant (search rules) in
    rw (items, more) step

pub returns : goal.returns
returns c =
    let all : take c.loop-number.number-index c.args.numbers.now ≡ c.args.numbers.now = grind (arith, common_steps) in
    view-Array c.loop-number.list ∙ ap array (c.loop-number.invariant ∙ ap numbers_of all)
