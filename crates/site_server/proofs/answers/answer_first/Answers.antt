use Rattle.std.proofs.Common.{◌∙◌, ◌∷◌, ◌++◌, List, [], length, drop, Bool, refl, ap, subst, arith}
use Rattle.site_answers.specs.Saying.{Answer}
use Rattle.site_turns.specs.Posted.{Posted}
use Rattle.site_turns.specs.Turns.{TakesTurn}
use Rattle.site_turns.proofs.Turning.{no_turn, turned_as, wanting}
use Rattle.site_server.specs.Gathered.{ArePosts, texts_to}
use Rattle.site_server.proofs.Gathering.{exchanged, popped, single_text}
use Rattle.site_server.proofs.Grouping.{Firsts, one_first, turn_fewer, turn_firsts}
use Rattle.site_server.proofs.answers.answer_first.Goals as goal

pub returns-in-Ok-clause-fewer : goal.returns-in-Ok-clause-fewer
returns-in-Ok-clause-fewer g c =
    let answered = c.answer_posts-said.result in
    let t = c.answer_posts-said.ensures.turned in
    let posts_are = c.in-Ok.ensures.ok ∙ ap (λ q. q.items) c.replace-gathered.ensures.value in
    turn_fewer c.args.desk.now.origin c.args.pass.now.worker c.args.posts.now.items (c.args.pass.now.seen ++ t.0) c.answer_posts-said.new.pass.seen answered.said.items answered.rest.items c.requires.some
    (subst (λ (posts : List Posted). TakesTurn c.args.desk.now.origin c.args.pass.now.worker posts (c.args.pass.now.seen ++ t.0) c.answer_posts-said.new.pass.seen answered.said.items answered.rest.items) posts_are t.5)

pub returns-in-Ok-clause-exchanged : goal.returns-in-Ok-clause-exchanged
returns-in-Ok-clause-exchanged g c =
    let origin = c.args.desk.now.origin in
    let worker = c.args.pass.now.worker in
    let answered = c.answer_posts-said.result in
    let posts_are = c.in-Ok.ensures.ok ∙ ap (λ q. q.items) c.replace-gathered.ensures.value in
    λ asks are close.
    exchanged origin worker asks answered.rest.items c.args.last _ _ c.args.pass.now.seen c.answer_posts-said.new.pass.seen answered.said.items _ _ close
    (turned_as worker c.args.pass.now.seen c.answer_posts-said.new.pass.seen (λ xs ys. TakesTurn origin worker c.in-Ok.lists.posts.items xs ys answered.said.items answered.rest.items) (λ xs ys. Firsts origin worker asks xs ys answered.said.items answered.rest.items)
    (λ xs ys t.
    turn_firsts origin worker asks c.args.posts.now.items xs ys answered.said.items answered.rest.items are c.requires.some c.requires.few
    (subst (λ (posts : List Posted). TakesTurn origin worker posts xs ys answered.said.items answered.rest.items) posts_are t))
    c.answer_posts-said.ensures.turned)
    (ap (λ (l : List Answer). texts_to l c.is_last.result) c.deref.ensures.value ∙ ap (λ (b : Bool). texts_to answered.said.items b) c.is_last.ensures) c.put_all.ensures.put

pub returns-in-Err-clause-fewer : goal.returns-in-Err-clause-fewer
returns-in-Err-clause-fewer g c =
    let posts_are = c.in-Err.ensures.err ∙ ap (λ q. q.items) c.replace-gathered.ensures.value in
    let p = popped c.args.posts.now.items c.pop_front-post.new.self.items c.requires.some (c.pop_front-post.ensures.rest ∙ ap (λ l. drop 1 l) posts_are) in
    let long = ap length p.1 in
    omega (arith, long)

pub returns-in-Err-clause-exchanged : goal.returns-in-Err-clause-exchanged
returns-in-Err-clause-exchanged g c =
    let origin = c.args.desk.now.origin in
    let worker = c.args.pass.now.worker in
    let seen = c.args.pass.now.seen in
    let said : Answer = c.fault.result in
    let rest = c.pop_front-post.new.self.items in
    let posts_are = c.in-Err.ensures.err ∙ ap (λ q. q.items) c.replace-gathered.ensures.value in
    let p = popped c.args.posts.now.items rest c.requires.some (c.pop_front-post.ensures.rest ∙ ap (λ l. drop 1 l) posts_are) in
    λ asks are close.
    exchanged origin worker asks rest c.args.last _ _ seen seen (said ∷ []) _ _ close
    (no_turn worker seen (λ xs ys. Firsts origin worker asks xs ys (said ∷ []) rest) (one_first origin worker asks p.0 rest seen seen (said ∷ []) said (subst (ArePosts asks) p.1 are) refl (wanting origin worker p.0 seen said c.fault.ensures)))
    (single_text said _ _ c.is_last-in-Err.ensures) c.put_to-in-Err.ensures.put
