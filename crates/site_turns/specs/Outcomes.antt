-- What an outcome is answered.
use Rattle.std.specs.Prelude.{List, [], ◌∷◌}
use Rattle.deed_words.specs.Setups.{Setup}
use Rattle.deed_json.specs.Replies.{NamesStationsOf}
use Rattle.deed_json.specs.declared.unkept.Unkept.TheVariants as unkept
use Rattle.site_store.specs.declared.outcome.Outcome.{Outcome}
use Rattle.site_store.specs.declared.outcome.Outcome.TheVariants.{Replied, NumberReused, NumberGap, DiskFault, ClockFault, ClockRange, WordsFault, WordsSpent, JournalFull, Memory}
use Rattle.site_answers.specs.Saying.{Answer, IsSaid, fixed}
use Rattle.site_answers.specs.Told.{reply_answer, unkept_answer}
use Rattle.site_answers.specs.declared.fault_name.FaultName.TheVariants as named

abbrev pub outcome_answer : Setup → Outcome → Answer
outcome_answer site (Replied reply) = reply_answer site reply
outcome_answer site NumberReused = unkept_answer 422 unkept.NumberReused
outcome_answer site (NumberGap last) = unkept_answer 409 (unkept.NumberGap last)
outcome_answer site DiskFault = unkept_answer 503 unkept.DiskFault
outcome_answer site ClockFault = unkept_answer 503 unkept.ClockFault
outcome_answer site (ClockRange ms) = unkept_answer 503 (unkept.ClockRange ms)
outcome_answer site WordsFault = unkept_answer 503 unkept.WordsFault
outcome_answer site (WordsSpent found) = unkept_answer 503 (unkept.WordsSpent found)
outcome_answer site (JournalFull end asked) = unkept_answer 500 (unkept.JournalFull end asked)
outcome_answer site Memory = fixed named.Memory

-- each outcome is answered so, or that memory is wanting
abbrev pub AreSaid : Setup → List Outcome → List Answer → Type 0
AreSaid site [] [] = Unit {0}
AreSaid site (outcome ∷ outcomes) (answer ∷ answers) = IsSaid (outcome_answer site outcome) answer × AreSaid site outcomes answers
AreSaid site outcomes answers = ⊥

-- the stations that the reply names, if there is one, are of the site
abbrev pub IsPrintable : Setup → Outcome → Type 0
IsPrintable site (Replied reply) = NamesStationsOf site reply
IsPrintable site outcome = Unit {0}
