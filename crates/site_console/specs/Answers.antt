-- What a line is answered, what it does to what the store stands for, and which devices are blamed for it.
use Rattle.std.specs.Prelude.{◌≡◌, ◌≤◌, ◌<◌, ℕ, Bool, false, List, [], length, Result, Ok, Err}
use Rattle.outside.specs.Causes.{HasCauseIf}
use Rattle.serde_json.specs.Written.{compact_text}
use Rattle.deed_words.specs.Setups.{Setup}
use Rattle.deed_words.specs.declared.entry.Ask.{Ask}
use Rattle.deed_words.specs.declared.entry.Entry.{Entry}
use Rattle.deed_json.specs.Asked.{asked_of}
use Rattle.deed_json.specs.Replies.{reply_data, NamesStationsOf}
use Rattle.deed_json.specs.Unkept.{unkept_data, unkept_of}
use Rattle.deed_json.specs.declared.ask.AskFault.{AskFault}
use Rattle.deed_json.specs.declared.unkept.Unkept.TheVariants as unkept
use Rattle.site_store.specs.declared.outcome.Outcome.{Outcome}
use Rattle.site_store.specs.declared.outcome.Outcome.TheVariants.{Replied, NumberReused, NumberGap, DiskFault, ClockFault, ClockRange, WordsFault, WordsSpent, JournalFull, Memory}
use Rattle.site_store.specs.Causes.{is_disk_fault, is_clock_fault, is_words_fault}
use Rattle.site_store.specs.Moved.{Taken, nothing_taken}
use Rattle.site_store.specs.States.{State}
use Rattle.site_store.specs.Stops.{Answered, handed_by}
use Rattle.site_console.specs.declared.answer.Answer.{Answer}
use Rattle.site_console.specs.declared.answer.Answer.TheVariants.{TooLong, Unasked, NoMemory, Came}
use Rattle.site_console.specs.Limits.{line_limit}
use Rattle.site_console.specs.Told.{Counts}
use Rattle.site_console.specs.Turns.{TurnsTo}

-- the line is short, and reads as this request
pub record AsksFor (site : Setup) (line : List ℕ) (ask : Ask) : Type 0 where
  pub short : length line ≤ line_limit
  pub read : asked_of site line ≡ Ok ask

-- the line is short, and asks for nothing, for this reason
pub record IsUnasked (site : Setup) (line : List ℕ) (fault : AskFault) : Type 0 where
  pub short : length line ≤ line_limit
  pub read : asked_of site line ≡ Err fault

-- nothing was taken, and the store stands for the same
pub record Stays (old : State) (taken : Taken) (new : State) : Type 0 where
  pub none : taken ≡ nothing_taken
  pub same : new ≡ old

-- the line asks for something, and the store took one step for it, with this outcome
pub record Turns (site : Setup) (old : State) (line : List ℕ) (outcome : Outcome) (taken : Taken) (new : State) : Type 0 where
  pub ask : Ask
  pub asks : AsksFor site line ask
  pub turn : TurnsTo site old ask taken outcome new

-- From old, the line may get this answer, take this and lead to new. Want of memory may come at any time.
abbrev pub AnswersLine : Setup → State → List ℕ → Answer → Taken → State → Type 0
AnswersLine site old line TooLong taken new = (line_limit < length line) × Stays old taken new
AnswersLine site old line (Unasked fault) taken new = IsUnasked site line fault × Stays old taken new
AnswersLine site old line NoMemory taken new = Stays old taken new
AnswersLine site old line (Came outcome) taken new = Turns site old line outcome taken new

-- the text of what came of a request: compact JSON
unfoldable pub outcome_text : Setup → Outcome → List ℕ
outcome_text site (Replied reply) = compact_text (reply_data site reply)
outcome_text site NumberReused = compact_text (unkept_data unkept.NumberReused)
outcome_text site (NumberGap last) = compact_text (unkept_data (unkept.NumberGap last))
outcome_text site DiskFault = compact_text (unkept_data unkept.DiskFault)
outcome_text site ClockFault = compact_text (unkept_data unkept.ClockFault)
outcome_text site (ClockRange ms) = compact_text (unkept_data (unkept.ClockRange ms))
outcome_text site WordsFault = compact_text (unkept_data unkept.WordsFault)
outcome_text site (WordsSpent found) = compact_text (unkept_data (unkept.WordsSpent found))
outcome_text site (JournalFull end asked) = compact_text (unkept_data (unkept.JournalFull end asked))
outcome_text site Memory = compact_text (unkept_data unkept.Memory)

-- the text of an answer
unfoldable pub answer_text : Setup → Answer → List ℕ
answer_text site TooLong = compact_text (unkept_data unkept.LineTooLong)
answer_text site (Unasked fault) = compact_text (unkept_data (unkept_of fault))
answer_text site NoMemory = compact_text (unkept_data unkept.Memory)
answer_text site (Came outcome) = outcome_text site outcome

-- the stations that a reply names are of the site
abbrev pub IsPrintableOutcome : Setup → Outcome → Type 0
IsPrintableOutcome site (Replied reply) = NamesStationsOf site reply
IsPrintableOutcome site outcome = Unit {0}

abbrev pub IsPrintable : Setup → Answer → Type 0
IsPrintable site (Came outcome) = IsPrintableOutcome site outcome
IsPrintable site answer = Unit {0}

-- ---- faults of devices

-- which faults an answer tells
abbrev pub tells : (Outcome → Bool) → Answer → Bool
tells which TooLong = false
tells which (Unasked fault) = false
tells which NoMemory = false
tells which (Came outcome) = which outcome

-- the text of an answer is `DiskFault`, `ClockFault` or `WordsFault`
abbrev pub tells_disk_fault : Answer → Bool
tells_disk_fault answer = tells (λ outcome. is_disk_fault outcome []) answer

abbrev pub tells_clock_fault : Answer → Bool
tells_clock_fault answer = tells is_clock_fault answer

abbrev pub tells_words_fault : Answer → Bool
tells_words_fault answer = tells is_words_fault answer

-- A device's count rose where the answer tells its fault, and else it stays. The disk's rose also where a mend failed and
-- no memory was found to tell it, and then this is still pending.
pub record Blames (answer : Answer) (pending : List Entry) (before now : Counts) : Type 0 where
  pub disk : HasCauseIf (tells (λ outcome. is_disk_fault outcome pending) answer) before.disk now.disk
  pub clock : HasCauseIf (tells_clock_fault answer) before.clock now.clock
  pub words : HasCauseIf (tells_words_fault answer) before.words now.words

-- ---- replies that were put

-- the numbered request that was answered with a reply, if any
abbrev pub handed_for : Answer → Result Ask AskFault → List Answered
handed_for TooLong asked = []
handed_for (Unasked fault) asked = []
handed_for NoMemory asked = []
handed_for (Came outcome) (Ok ask) = handed_by ask outcome
handed_for (Came outcome) (Err fault) = []
