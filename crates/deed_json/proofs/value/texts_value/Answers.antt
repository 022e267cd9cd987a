use Rattle.std.proofs.Common.{◌≡◌, ◌∙◌, ◌++◌, ◌∷◌, ◌+◌, [], take, ap, arith, rules, true}
use Rattle.std.specs.Result.{is_ok}
use Rattle.std.proofs.lemmas.Grind.{common_steps}
use Rattle.serde_json.specs.Data.{array}
use Rattle.serde_json.proofs.Views.{view-Array}
use Rattle.deed_json.specs.Objects.{texts_of}
use Rattle.deed_json.proofs.Arrays.{texts_of-push}
use Rattle.deed_json.proofs.value.texts_value.Goals as goal

pub loop-text-preserved : goal.loop-text-preserved
loop-text-preserved c =
    let good : is_ok c.push.result ≡ true = search rules in
    let items = rw good at c.push.ensures.items in
    let more : take (c.loop-text.text-index + 1) c.args.texts.now ≡ take c.loop-text.text-index c.args.texts.now ++ c.text-item.result ∷ [] = grind (arith, common_steps) in
    let step = texts_of-push c.loop-text.list.items c.in_ok-text_value.field-0 (take c.loop-text.text-index c.args.texts.now) c.text-item.result c.loop-text.invariant (search rules) in
    rw (items, more) step

pub returns : goal.returns
returns c =
    let all : take c.loop-text.text-index c.args.texts.now ≡ c.args.texts.now = grind (arith, common_steps) in
    view-Array c.loop-text.list ∙ ap array (c.loop-text.invariant ∙ ap texts_of all)
