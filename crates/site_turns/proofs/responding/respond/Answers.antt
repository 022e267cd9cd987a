use Rattle.std.proofs.Common.{rules, ◌≡◌, ◌∙◌, ◌<◌, length, take, get_or, vec_capacity, arith, ap}
use Rattle.std.proofs.lemmas.List.{length-take}
use Rattle.std.specs.Prelude.{min}
use Rattle.site_turns.proofs.Counted.{said_count}
use Rattle.site_turns.proofs.Responses.{said_next}
use Rattle.site_turns.proofs.responding.respond.Goals as goal

pub push_reserved-requires : goal.push_reserved-requires
push_reserved-requires c =
    let inv = c.loop-outcome.invariant in
    let outcomes = c.args.outcomes.now in
    let at = c.loop-outcome.outcome-index in
    let few : at < length outcomes = search rules in
    let count = said_count c.args.setup.now (take at outcomes) c.loop-outcome.said.items inv.0 in
    let size = length-take at outcomes in
    let same = inv.1 in
    let spare = c.requires.spare in
    omega (arith, c.loop-outcome.said.ok.0, few, count, size, same, spare)

pub loop-outcome-preserved : goal.loop-outcome-preserved
loop-outcome-preserved c =
    let inv = c.loop-outcome.invariant in
    let outcomes = c.args.outcomes.now in
    let at = c.loop-outcome.outcome-index in
    let few : at < length outcomes = search rules in
    let here : c.outcome-item.result ≡ get_or outcomes at c.outcome-item.result = search rules in
    (said_next c.args.setup.now outcomes at c.outcome-item.result c.loop-outcome.said.items _ c.response_of.result few here inv.0 c.response_of.ensures c.push_reserved.ensures.items, c.push_reserved.ensures.capacity ∙ inv.1)
