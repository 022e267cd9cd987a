use Rattle.std.proofs.Common.{◌≡◌, ◌∙◌, ◌++◌, ◌∷◌, [], ℕ, List, map, sym, ap, arith}
use Rattle.site_sim.specs.Requests.{below}
use Rattle.site_sim.specs.Supplies.{word_at, words}
use Rattle.site_sim.proofs.Cuts.{one_more}
use Rattle.site_sim.proofs.supplies.words.Goals as goal

pub loop-k-preserved : goal.loop-k-preserved
loop-k-preserved c =
    let k = c.loop-k.k in
    c.in_ok-push.ensures.items ∙ ap (λ (xs : List ℕ). xs ++ c.word_at.result ∷ []) c.loop-k.invariant
    ∙ ap (λ (n : ℕ). map (word_at c.args.seed) (below k) ++ n ∷ []) c.word_at.ensures ∙ sym (one_more (word_at c.args.seed) k)

pub returns : goal.returns
unfolding words
returns c =
    let all : c.loop-k.k ≡ c.args.count = omega (arith, c.loop-k-test.false, c.loop-k.auto.k-end) in
    c.loop-k.invariant ∙ ap (λ (n : ℕ). map (word_at c.args.seed) (below n)) all
