-- The answers to numbered requests: replies that are kept, and what isn't kept.
use Rattle.std.specs.Prelude.{ℕ}
use Rattle.serde_json.specs.Written.{compact_text}
use Rattle.deed_words.specs.Setups.{Setup}
use Rattle.deed_words.specs.declared.reply.Reply.{Reply}
use Rattle.deed_words.specs.declared.reply.Reply.TheVariants.{Accepted, Refused}
use Rattle.deed_json.specs.Replies.{reply_data}
use Rattle.deed_json.specs.Unkept.{unkept_data, unkept_of}
use Rattle.deed_json.specs.declared.ask.AskFault.{AskFault}
use Rattle.deed_json.specs.declared.ask.AskFault.TheVariants as ask
use Rattle.deed_json.specs.declared.unkept.Unkept.{Unkept}
use Rattle.site_answers.specs.Saying.{Answer, fixed, in_json}
use Rattle.site_answers.specs.declared.fault_name.FaultName.TheVariants.{Memory}

abbrev pub reply_status : Reply → ℕ
reply_status (Accepted told) = 200
reply_status (Refused rule) = 409

-- a reply of the site: compact JSON
abbrev pub reply_answer : Setup → Reply → Answer
reply_answer site reply = in_json (reply_status reply) (compact_text (reply_data site reply))

-- what isn't kept, with its status
abbrev pub unkept_answer : ℕ → Unkept → Answer
unkept_answer status unkept = in_json status (compact_text (unkept_data unkept))

-- a body that asks for nothing, and why
abbrev pub unasked_answer : AskFault → Answer
unasked_answer ask.BadLine = unkept_answer 400 (unkept_of ask.BadLine)
unasked_answer ask.NoStation = unkept_answer 404 (unkept_of ask.NoStation)
unasked_answer (ask.BadDeed broken) = unkept_answer 400 (unkept_of (ask.BadDeed broken))
unasked_answer ask.Memory = fixed Memory
