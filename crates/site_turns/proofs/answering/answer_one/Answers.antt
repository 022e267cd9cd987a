use Rattle.std.proofs.Common.{◌≡◌, ◌∙◌, ◌<◌, ◌∷◌, ◌++◌, [], List, length, vec_len, arith, ap, subst, sym}
use Rattle.turn_desk.specs.declared.view.Noted.{Noted}
use Rattle.site_answers.specs.Saying.{Answer}
use Rattle.site_turns.specs.Posted.{Posted}
use Rattle.site_turns.specs.Turns.{IsPosted, TakesTurn}
use Rattle.site_turns.proofs.Turning.{last_is, no_turn, turn_alone, turned_as, wanting}
use Rattle.site_turns.proofs.answering.answer_one.Goals as goal

pub returns-in_default-clause-turned : goal.returns-in_default-clause-turned
returns-in_default-clause-turned g c =
    let worker = c.args.pass.now.worker in
    let seen = c.args.pass.now.seen in
    let said : Answer = c.fault.result in
    no_turn worker seen (λ xs ys. IsPosted c.args.desk.now.origin worker c.args.post xs ys said) (wanting c.args.desk.now.origin worker c.args.post seen said c.fault.ensures)

pub unreachable-requires : goal.unreachable-requires
unreachable-requires g c =
    let origin = c.args.desk.now.origin in
    let worker = c.args.pass.now.worker in
    let answered = c.answer_posts-said.result in
    let t = c.answer_posts-said.ensures.turned in
    let takes = subst (λ (posts : List Posted). TakesTurn origin worker posts (c.args.pass.now.seen ++ t.0) c.answer_posts-said.new.pass.seen answered.said.items answered.rest.items) c.in-Ok.ensures t.5 in
    let alone = turn_alone origin worker c.args.post _ _ answered.said.items answered.rest.items takes in
    let one = ap length alone.one in
    let some : 0 < vec_len answered.said = omega (arith, one, answered.said.ok.0) in
    let none = c.in-None.ensures.variant.1 some in
    cc

pub returns-clause-turned : goal.returns-clause-turned
returns-clause-turned g c =
    let origin = c.args.desk.now.origin in
    let worker = c.args.pass.now.worker in
    let answered = c.answer_posts-said.result in
    let response : Answer = c.in-Some.response in
    turned_as worker c.args.pass.now.seen c.answer_posts-said.new.pass.seen (λ xs ys. TakesTurn origin worker c.in-Ok.lists.posts.items xs ys answered.said.items answered.rest.items) (λ xs ys. IsPosted origin worker c.args.post xs ys response)
    (λ xs ys t.
    let alone = turn_alone origin worker c.args.post xs ys answered.said.items answered.rest.items (subst (λ (posts : List Posted). TakesTurn origin worker posts xs ys answered.said.items answered.rest.items) c.in-Ok.ensures t) in
    subst (IsPosted origin worker c.args.post xs ys) (sym (last_is c.pop.new.self.items alone.answer response (sym c.in-Some.ensures.items ∙ alone.one))) alone.posted)
    c.answer_posts-said.ensures.turned
