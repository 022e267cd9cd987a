use Rattle.std.proofs.Common.{◌≡◌, ◌∙◌, ◌++◌, ◌∷◌, [], ℕ, List, map, sym, ap, arith}
use Rattle.site_sim.specs.Requests.{below}
use Rattle.site_sim.specs.Supplies.{moment_at, moments}
use Rattle.site_sim.proofs.Cuts.{one_more}
use Rattle.site_sim.proofs.supplies.moments.Goals as goal

pub loop-k-preserved : goal.loop-k-preserved
loop-k-preserved c =
    let k = c.loop-k.k in
    c.in_ok-push.ensures.items ∙ ap (λ (xs : List ℕ). xs ++ moment_at k ∷ []) c.loop-k.invariant ∙ sym (one_more moment_at k)

pub returns : goal.returns
unfolding moments
returns c =
    let all : c.loop-k.k ≡ c.args.count = omega (arith, c.loop-k-test.false, c.loop-k.auto.k-end) in
    c.loop-k.invariant ∙ ap (λ (n : ℕ). map moment_at (below n)) all
