use Rattle.std.proofs.Common.{◌∙◌, sym, subst}
use Rattle.site_answers.specs.Saying.{IsSaid}
use Rattle.site_answers.specs.Things.{item_answer}
use Rattle.site_answers.proofs.thing.item_response.Goals as goal

pub returns-in-Some : goal.returns-in-Some
returns-in-Some c =
    subst (λ o. IsSaid (item_answer o) c.json_response.result) (sym c.in-Some.is ∙ c.item_view.ensures) (c.json_response.ensures _ c.item_text.ensures)
