use Rattle.std.proofs.Common.{◌≡◌, ◌∙◌, ◌++◌, ◌∷◌, ◌+◌, [], take, ap, arith, rules, true}
use Rattle.std.specs.Result.{is_ok}
use Rattle.std.proofs.lemmas.Grind.{common_steps}
use Rattle.serde_json.specs.Data.{array}
use Rattle.serde_json.proofs.Views.{view-Array}
use Rattle.epcis_events.specs.Documents.{urns_of}
use Rattle.epcis_events.proofs.Arrays.{urns_of-push}
use Rattle.epcis_events.proofs.texts.urns_value.Goals as goal

pub loop-one-preserved : goal.loop-one-preserved
loop-one-preserved c =
    let good : is_ok c.push.result ≡ true = search rules in
    let items = rw good at c.push.ensures.items in
    let more : take (c.loop-one.one-index + 1) c.args.named.now ≡ take c.loop-one.one-index c.args.named.now ++ c.one-item.result ∷ [] = grind (arith, common_steps) in
    let step = urns_of-push c.loop-one.list.items c.in_ok-urn_value.field-0 (take c.loop-one.one-index c.args.named.now) c.one-item.result c.loop-one.invariant (search rules) in
    rw (items, more) step

pub returns : goal.returns
returns c =
    let all : take c.loop-one.one-index c.args.named.now ≡ c.args.named.now = grind (arith, common_steps) in
    view-Array c.loop-one.list ∙ ap array (c.loop-one.invariant ∙ ap urns_of all)
