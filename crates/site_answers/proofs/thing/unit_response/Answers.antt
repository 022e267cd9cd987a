use Rattle.std.proofs.Common.{◌∙◌, sym, subst}
use Rattle.site_answers.specs.Saying.{IsSaid}
use Rattle.site_answers.specs.Things.{unit_answer}
use Rattle.site_answers.proofs.thing.unit_response.Goals as goal

pub returns-in-Some : goal.returns-in-Some
returns-in-Some c =
    subst (λ o. IsSaid (unit_answer o) c.json_response.result) (sym c.in-Some.is ∙ c.unit_view.ensures) (c.json_response.ensures _ c.unit_text.ensures)
