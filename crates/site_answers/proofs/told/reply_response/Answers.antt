use Rattle.std.proofs.Common.{ℕ, subst}
use Rattle.serde_json.specs.Written.{compact_text}
use Rattle.deed_json.specs.Replies.{reply_data}
use Rattle.site_answers.specs.Saying.{IsSaid, in_json}
use Rattle.site_answers.proofs.told.reply_response.Goals as goal

pub returns : goal.returns
returns c =
    let due = compact_text (reply_data c.args.setup.now c.args.reply.now) in
    subst (λ (status : ℕ). IsSaid (in_json status due) c.json_response.result) c.status_of.ensures.is (c.json_response.ensures due c.reply_text.ensures)
