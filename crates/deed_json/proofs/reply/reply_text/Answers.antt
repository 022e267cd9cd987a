use Rattle.std.proofs.Common.{◌∙◌, ap}
use Rattle.serde_json.specs.Written.{has_float, compact_text}
use Rattle.deed_json.proofs.Floats.{reply_has_no_float}
use Rattle.deed_json.proofs.reply.reply_text.Goals as goal

pub returns-in-Ok : goal.returns-in-Ok
returns-in-Ok c =
    let is = c.in_ok-reply_value.ensures in
    c.in-Ok.ensures.text (ap has_float is ∙ reply_has_no_float c.args.setup.now c.args.reply.now) ∙ ap compact_text is
