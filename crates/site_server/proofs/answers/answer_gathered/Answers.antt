use Rattle.std.proofs.Common.{◌≡◌, ◌≢◌, ◌∙◌, ◌≤◌, ◌<◌, ℕ, List, [], length, refl, ap, arith}
use Rattle.std.proofs.lemmas.Bool.Decides.{nat_tests}
use Rattle.std.proofs.lemmas.List.{nil_from_length}
use Rattle.std.proofs.lemmas.Result.{err_from_is_err_and}
use Rattle.site_turns.specs.Posted.{Posted}
use Rattle.site_server.proofs.Gathering.{answered_part, answered_whole, answering_more, none_answered}
use Rattle.site_server.proofs.answers.answer_gathered.Goals as goal

pub turns-init : goal.turns-init
turns-init g c = record {
  answering = λ asks are close. none_answered c.args.desk.now.origin c.args.pass.now.worker asks c.args.last (g.L.Sink.held c.args.link.now) c.args.pass.now.seen c.args.posts.now.items are close;
  turns = omega arith;
  fewer = omega arith;
  desk = c.requires.own;
  worker = refl;
  last = refl;
  left = refl;
  reads = refl;
  writes = refl;
}

pub answer_first-requires-clause-some : goal.answer_first-requires-clause-some
answer_first-requires-clause-some g c none =
    let some : 0 < length c.turns.posts.items = grind (arith, nat_tests, c.is_empty.ensures, c.turns-test.true, c.turns.posts.ok.0) in
    let long = ap length none in
    omega (arith, some, long)

longer : (m : ℕ) (posts : List Posted) → 0 < m → m ≤ length posts → posts ≡ [] → ⊥
longer m posts some few none = let long = ap length none in omega (arith, some, few, long)

pub returns-in_err-answer_first-clause-some : goal.returns-in_err-answer_first-clause-some
returns-in_err-answer_first-clause-some g c =
    let p = err_from_is_err_and c.from_residual.result c.from_residual.ensures.1 in
    let some : 0 < length c.turns.posts.items = grind (arith, nat_tests, c.is_empty.ensures, c.turns-test.true, c.turns.posts.ok.0) in
    let fewer = c.turns.invariant.fewer in
    let filled : c.args.posts.now.items ≢ [] = λ none. longer _ _ some fewer none in
    rw p.1 filled

pub turns-preserved : goal.turns-preserved
turns-preserved g c =
    let i = c.turns.invariant in
    let f = c.answer_first.ensures in
    let less = f.fewer in let turns = f.turns in let before = i.turns in let few = i.fewer in
    record {
      answering = λ asks are close. answering_more _ _ asks _ _ _ _ _ _ _ _ _ _ _ (i.answering asks are close) i.worker (λ asked are' close'. c.in_ok-answer_first.ensures.exchanged asked are' close');
      turns = omega (arith, less, turns, before);
      fewer = omega (arith, less, few);
      desk = f.same.0;
      worker = f.same.1 ∙ i.worker;
      last = f.same.2 ∙ i.last;
      left = f.left ∙ i.left;
      reads = f.faults ∙ i.reads;
      writes = c.in_ok-answer_first.ensures.cause.kept ∙ i.writes;
    }

pub returns-in_err-answer_first-clause-answered : goal.returns-in_err-answer_first-clause-answered
returns-in_err-answer_first-clause-answered g c =
    let i = c.turns.invariant in
    let p = err_from_is_err_and c.from_residual.result c.from_residual.ensures.1 in
    λ asks are close. rw p.1 (answered_part _ _ asks _ _ _ _ _ _ _ _ _ _ _ (i.answering asks are close) i.worker (λ asked are' close'. c.in_err-answer_first.ensures.exchanged asked are' close'))

pub returns-clause-answered : goal.returns-clause-answered
returns-clause-answered g c =
    let i = c.turns.invariant in
    let empty : length c.turns.posts.items ≡ 0 = grind (arith, nat_tests, c.is_empty.ensures, c.turns-test.false, c.turns.posts.ok.0) in
    λ asks are close. answered_whole _ _ asks _ _ _ _ _ _ _ (i.answering asks are close) (nil_from_length c.turns.posts.items empty)

pub returns-clause-none : goal.returns-clause-none
returns-clause-none g c =
    let empty : length c.turns.posts.items ≡ 0 = grind (arith, nat_tests, c.is_empty.ensures, c.turns-test.false, c.turns.posts.ok.0) in
    nil_from_length c.turns.posts.items empty
