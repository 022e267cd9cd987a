use Rattle.std.proofs.Common.{◌≡◌, List, length, ap, ◌∙◌, subst, arith}
use Rattle.turn_desk.specs.Tokens.{Token}
use Rattle.desk_tests.proofs.Again.{AllStill, crew_written}
use Rattle.desk_tests.proofs.turn_desk_tests.post_each.Goals as goal

pub returns-clause-crew : goal.returns-clause-crew
returns-clause-crew g c =
    let old : List Token = c.args.passes.now.items in
    let same : c.as_mut_slice.result.now ≡ old = c.as_mut_slice.ensures.value in
    crew_written c.args.desk.now c.args.passes.now.len old c.post_all.new.passes (omega (arith, c.args.passes.now.ok.0)) (c.post_all.ensures.long ∙ ap length same) (subst (λ (l : List Token). AllStill l c.post_all.new.passes) same c.post_all.ensures.each) c.requires.crew
