use Rattle.std.proofs.Common.{◌∙◌, ap}
use Rattle.serde_json.specs.Written.{has_float, compact_text}
use Rattle.deed_json.proofs.Floats.{unkept_has_no_float}
use Rattle.deed_json.proofs.unkept.unkept_text.Goals as goal

pub returns-in-Ok : goal.returns-in-Ok
returns-in-Ok c =
    let is = c.in_ok-unkept_value.ensures in
    c.in-Ok.ensures.text (ap has_float is ∙ unkept_has_no_float c.args.unkept) ∙ ap compact_text is
