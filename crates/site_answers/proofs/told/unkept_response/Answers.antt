use Rattle.site_answers.proofs.told.unkept_response.Goals as goal

pub returns : goal.returns
returns c = c.json_response.ensures _ c.unkept_text.ensures
