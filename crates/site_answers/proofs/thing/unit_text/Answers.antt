use Rattle.std.proofs.Common.{◌∙◌, ap}
use Rattle.serde_json.specs.Written.{has_float, compact_text}
use Rattle.site_answers.proofs.Floats.{unit_has_no_float}
use Rattle.site_answers.proofs.thing.unit_text.Goals as goal

pub returns-in-Ok-to_string : goal.returns-in-Ok-to_string
returns-in-Ok-to_string c =
    let is = c.in-Ok.ensures in
    c.in-Ok-to_string.ensures.text (ap has_float is ∙ unit_has_no_float c.args.unit.now) ∙ ap compact_text is
