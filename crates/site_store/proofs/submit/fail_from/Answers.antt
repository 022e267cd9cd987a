use Rattle.std.proofs.Common.{◌≡◌, ◌∙◌, ◌++◌, ◌∷◌, [], List, ℕ, suc, map, drop, vec_len, ap, sym, arith, append_assoc}
use Rattle.site_store.specs.declared.outcome.Outcome.{Outcome}
use Rattle.site_store.specs.declared.outcome.Outcome.TheVariants.{DiskFault}
use Rattle.site_store.proofs.Whole.{drop_step}
use Rattle.site_store.proofs.submit.fail_from.Goals as goal

pub lost-preserved : goal.lost-preserved
lost-preserved c =
    let was = c.lost.invariant in
    let all = c.args.outcomes.now.items in
    let n = vec_len c.lost.outcomes in
    let later : ℕ → List Outcome = λ k. map (λ (o : Outcome). DiskFault) (drop k all) in
    let one : suc n ≡ vec_len c.push_reserved.new.self = omega (arith, c.push_reserved.ensures.len) in
    record {
      all = ap (λ (l : List Outcome). l ++ later (vec_len c.push_reserved.new.self)) c.push_reserved.ensures.items ∙ append_assoc c.lost.outcomes.items (DiskFault ∷ []) (later (vec_len c.push_reserved.new.self))
          ∙ ap (λ (k : ℕ). c.lost.outcomes.items ++ DiskFault ∷ later k) (sym one) ∙ ap (λ (l : List Outcome). c.lost.outcomes.items ++ l) (sym (drop_step n all (omega (arith, was.count, c.lost-test.true, c.len.ensures)))) ∙ was.all;
      fits = omega (arith, c.push_reserved.ensures.len, c.lost-test.true, c.len.ensures);
      count = was.count;
      spare = omega (arith, was.spare, c.push_reserved.ensures.capacity);
    }
