use Rattle.std.proofs.Common.{◌∷◌, ◌++◌, Bool, false, [], refl, sym, subst}
use Rattle.site_server.specs.Gathered.{ArePosts, Gathers}
use Rattle.std.proofs.lemmas.Result.{err_from_is_err_and}
use Rattle.site_server.proofs.Gathering.{answered_both, answered_less, gathered_on}
use Rattle.site_server.proofs.Goings.{told_as}
use Rattle.site_server.proofs.Grouping.{close_more, posts_more}
use Rattle.site_server.proofs.answers.take_in.Goals as goal

pub returns-in_err-answer_gathered-clause-answered : goal.returns-in_err-answer_gathered-clause-answered
returns-in_err-answer_gathered-clause-answered g c =
    let same = subst (λ (b : Bool). Gathers c.args.asked c.args.posts.now.items c.gather.new.posts.items b) c.if-not-gather.true c.gather.ensures in
    let p = err_from_is_err_and c.from_residual.result c.from_residual.ensures.1 in
    λ asks are close. rw p.1 (answered_less _ _ _ _ _ _ _ asks _ _ (c.in_err-answer_gathered.ensures.answered asks (subst (ArePosts asks) (sym same) are) close))

pub returns-then-not-gather-clause-answered : goal.returns-then-not-gather-clause-answered
returns-then-not-gather-clause-answered g c =
    let same = subst (λ (b : Bool). Gathers c.args.asked c.args.posts.now.items c.gather.new.posts.items b) c.if-not-gather.true c.gather.ensures in
    λ asks are close. answered_both _ _ _ _ _ _ _ _ _ asks _ _ _ (c.in_ok-answer_gathered.ensures.answered asks (subst (ArePosts asks) (sym same) are) close) c.in_ok-answer_gathered.ensures.none
    (told_as _ _ _ _ _ _ _ _ _ _ _ c.answer_gathered.ensures.same.1 refl c.answer_alone.ensures.answered)

pub returns-then-close-clause-answered : goal.returns-then-close-clause-answered
returns-then-close-clause-answered g c =
    let is = subst (λ (b : Bool). Gathers c.args.asked c.args.posts.now.items c.gather.new.posts.items b) c.if-not-gather.false c.gather.ensures in
    λ asks are close. c.answer_gathered-then-close.ensures.answered (asks ++ c.args.asked ∷ []) (subst (ArePosts (asks ++ c.args.asked ∷ [])) (sym is.2) (posts_more asks c.args.posts.now.items c.args.asked is.0 are is.1)) (close_more c.args.asked.close asks c.args.asked close refl)

pub returns-clause-answered : goal.returns-clause-answered
returns-clause-answered g c =
    let is = subst (λ (b : Bool). Gathers c.args.asked c.args.posts.now.items c.gather.new.posts.items b) c.if-not-gather.false c.gather.ensures in
    λ asks are close. gathered_on _ _ _ _ _ (asks ++ c.args.asked ∷ []) _ (subst (ArePosts (asks ++ c.args.asked ∷ [])) (sym is.2) (posts_more asks c.args.posts.now.items c.args.asked is.0 are is.1)) (close_more false asks c.args.asked close c.if-close.false)
