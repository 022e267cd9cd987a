use Rattle.std.proofs.Common.{◌∙◌, ap}
use Rattle.serde_json.specs.Written.{has_float, compact_text}
use Rattle.site_answers.proofs.Floats.{item_has_no_float}
use Rattle.site_answers.proofs.thing.item_text.Goals as goal

pub returns-in-Ok-to_string : goal.returns-in-Ok-to_string
returns-in-Ok-to_string c =
    let is = c.in-Ok.ensures in
    c.in-Ok-to_string.ensures.text (ap has_float is ∙ item_has_no_float c.args.item.now) ∙ ap compact_text is
