use Rattle.std.proofs.Common.{rules, ◌≡◌, ◌∙◌, ◌≢◌, ◌≤◌, List, [], length, vec_capacity, arith, ap, subst, sym}
use Rattle.std.specs.List.{AllByRecursion as Every}
use Rattle.std.proofs.lemmas.Bool.Decides.{nat_tests}
use Rattle.deed_words.specs.Setups.{Setup}
use Rattle.turn_desk.specs.declared.view.Origin.{Origin}
use Rattle.site_store.specs.declared.outcome.Outcome.{Outcome}
use Rattle.site_turns.specs.Origins.{desk_notes, origin_of}
use Rattle.site_turns.specs.Outcomes.{AreSaid, IsPrintable}
use Rattle.site_turns.specs.Taking.{TakesSome}
use Rattle.site_turns.proofs.Counted.{steps_count}
use Rattle.site_turns.proofs.Taken.{taken_count}
use Rattle.site_turns.proofs.Turning.{left_turn, nothing_long, something, step_turn}
use Rattle.site_turns.proofs.group.answer_group.Goals as goal

pub returns-then-is_empty-clause-turn : goal.returns-then-is_empty-clause-turn
returns-then-is_empty-clause-turn g c =
    let s = c.args.store.now in
    let origin = origin_of g.D.Disk g.C.Clock g.W.Words s in
    let posts = c.args.lists.posts.items in
    let asks = c.take_asks.new.asks in
    let rest = c.take_asks.new.posts.items in
    let taken = subst (λ (site : Setup). TakesSome site posts asks.items rest) (c.setup.ensures ∙ ap (λ v. v.setup) c.site.ensures) c.take_asks.ensures.taken in
    let empty : length asks.items ≡ 0 = grind (arith, nat_tests, c.is_empty.ensures, c.if-is_empty.true, asks.ok) in
    left_turn origin c.args.worker posts rest asks.items (desk_notes s) c.without_step.result.said.items c.without_step.result.rest.items taken.taken (nothing_long asks.items empty) taken.stopped c.without_step.ensures

pub step-requires-clause-few : goal.step-requires-clause-few
step-requires-clause-few g c =
    let count = taken_count c.setup.result.now c.args.lists.posts.items c.take_asks.new.posts.items c.take_asks.new.asks.items c.take_asks.ensures.taken.taken in
    let few = c.args.lists.few in
    omega (arith, count, few)

pub step-requires-clause-spare : goal.step-requires-clause-spare
step-requires-clause-spare g c =
    let count = taken_count c.setup.result.now c.args.lists.posts.items c.take_asks.new.posts.items c.take_asks.new.asks.items c.take_asks.ensures.taken.taken in
    let room = c.args.lists.room_for_outcomes in
    omega (arith, count, room)

pub respond-requires-clause-printable : goal.respond-requires-clause-printable
respond-requires-clause-printable g c =
    subst (λ (l : List Outcome). Every (IsPrintable c.setup-2.result.now) l) (sym c.deref.ensures.value)
    (subst (λ (site : Setup). Every (IsPrintable site) c.step.new.outcomes.items) (sym (c.setup-2.ensures ∙ ap (λ v. v.setup) c.site-2.ensures)) c.step.ensures.printable)

pub respond-requires-clause-spare : goal.respond-requires-clause-spare
respond-requires-clause-spare g c =
    let count = taken_count c.setup.result.now c.args.lists.posts.items c.take_asks.new.posts.items c.take_asks.new.asks.items c.take_asks.ensures.taken.taken in
    let room = c.args.lists.room_for_answers in
    let submits = c.step.ensures.submits in
    let same = steps_count _ submits.end _ c.args.worker c.take_asks.new.asks.items submits.taken c.step.new.outcomes.items _ submits.notes submits.steps in
    let read = ap length c.deref.ensures.value in
    omega (arith, count, room, same, read)

pub returns-clause-turn : goal.returns-clause-turn
returns-clause-turn g c =
    let s = c.args.store.now in
    let u = c.step.new.store in
    let origin = origin_of g.D.Disk g.C.Clock g.W.Words s in
    let posts = c.args.lists.posts.items in
    let asks = c.take_asks.new.asks in
    let rest = c.take_asks.new.posts.items in
    let outcomes = c.step.new.outcomes.items in
    let taken = subst (λ (site : Setup). TakesSome site posts asks.items rest) (c.setup.ensures ∙ ap (λ v. v.setup) c.site.ensures) c.take_asks.ensures.taken in
    let some : asks.items ≢ [] = something asks.items (λ none. let full : length asks.items ≢ 0 = grind (arith, nat_tests, c.is_empty.ensures, c.if-is_empty.false, asks.ok) in full none) in
    let setup_is = c.setup-2.ensures ∙ ap (λ v. v.setup) c.site-2.ensures ∙ ap (λ (o : Origin). o.setup) c.step.ensures.origin in
    let said = subst (λ (site : Setup). AreSaid site outcomes c.respond.new.said.items) setup_is (subst (λ (l : List Outcome). AreSaid c.setup-2.result.now l c.respond.new.said.items) c.deref.ensures.value c.respond.ensures) in
    step_turn origin c.args.worker posts asks.items (desk_notes s) (desk_notes u) outcomes c.respond.new.said.items rest taken some c.step.ensures.submits said
