-- A run over a script: which lines it read, what it answered to each, and what the store then stands for.
use Rattle.std.specs.Prelude.{false, ◌≡◌, ◌<◌, ◌≤◌, ◌⊎◌, ℕ, List, [], ◌∷◌, ◌++◌, length, map, count_by, Option, Result, Ok, Err}
use Rattle.std.specs.List.{All, flat_map}
use Rattle.std.specs.Io.KnownBytes.{Consumes, Appends, IsAtEnd}
use Rattle.outside.specs.Causes.{RoseBy}
use Rattle.deed_words.specs.Setups.{Setup}
use Rattle.deed_json.specs.Asked.{asked_of}
use Rattle.site_store.specs.Moved.{Taken}
use Rattle.site_store.specs.Stops.{Answered}
use Rattle.site_console.specs.declared.answer.Answer.{Answer}
use Rattle.site_console.specs.declared.fault.Fault.{Fault}
use Rattle.site_console.specs.declared.fault.Fault.TheVariants.{Read, Write, Memory, InputTooLong}
use Rattle.site_console.specs.Limits.{input_limit}
use Rattle.site_console.specs.Newline.{newline, HasNoNewline}
use Rattle.site_console.specs.Lines.{Cuts, ended, is_empty, asked_lines}
use Rattle.site_console.specs.Puts.{IsPart}
use Rattle.site_console.specs.Answers.{AnswersLine, Blames, answer_text, tells_disk_fault, tells_clock_fault, tells_words_fault, handed_for}
use Rattle.site_console.specs.Told.{Told, Counts}
use Rattle.site_console.specs.Open.{Point}

-- one line, its answer, and what its step took
pub record Exchange : Type 0 where
  pub line : List ℕ
  pub answer : Answer
  pub taken : Taken

-- the answer's line
abbrev pub exchange_text : Setup → Exchange → List ℕ
exchange_text site x = answer_text site x.answer ++ newline ∷ []

-- from old, the line got its answer, which led to new, and each fault that it tells is one of its own step
pub record Exchanges (site : Setup) (old : Point) (x : Exchange) (new : Point) : Type 0 where
  pub step : AnswersLine site old.state x.line x.answer x.taken new.state
  pub blames : Blames x.answer new.state.pending old.counts new.counts

-- the steps of these exchanges lead from old to new, one after the other
abbrev pub Run : Setup → Point → List Exchange → Point → Type 0
Run site old [] new = new ≡ old
Run site old (x ∷ xs) new = (mid : Point) × Exchanges site old x mid × Run site mid xs new

-- what a run read, put and took, the lines that it answered whole, and where it led
pub record Talk : Type 0 where
  pub read : List ℕ
  pub put : List ℕ
  pub moments : List ℕ
  pub words : List ℕ
  pub exchanges : List Exchange
  pub point : Point

-- The lines were answered, one after the other and each with one line, but for the empty ones, which are passed over.
pub record Script (site : Setup) (old : Point) (lines : List (List ℕ)) (talk : Talk) : Type 0 where
  pub asked : map (λ x. x.line) talk.exchanges ≡ asked_lines lines
  pub answered : talk.put ≡ flat_map (exchange_text site) talk.exchanges
  pub used_moments : talk.moments ≡ flat_map (λ x. x.taken.moments) talk.exchanges
  pub used_words : talk.words ≡ flat_map (λ x. x.taken.words) talk.exchanges
  pub run : Run site old talk.exchanges talk.point

-- Each line was answered, and so was what follows the last newline.
pub record AnswersAll (site : Setup) (old : Point) (talk : Talk) : Type 0 where
  pub lines : List (List ℕ)
  pub rest : List ℕ
  pub cuts : Cuts talk.read lines rest
  pub script : Script site old (lines ++ rest ∷ []) talk

-- Each whole line was answered, and no other.
pub record AnswersWhole (site : Setup) (old : Point) (talk : Talk) : Type 0 where
  pub lines : List (List ℕ)
  pub rest : List ℕ
  pub cuts : Cuts talk.read lines rest
  pub script : Script site old lines talk

-- The first lines were answered, and no other.
pub record AnswersFront (site : Setup) (old : Point) (talk : Talk) : Type 0 where
  pub lines : List (List ℕ)
  pub more : List ℕ
  pub whole : talk.read ≡ flat_map ended lines ++ more
  pub each : All HasNoNewline lines
  pub script : Script site old lines talk

-- a line ends there: by its newline, or with the input
abbrev pub IsLineEnd : Type 0 → List ℕ → Type 0
IsLineEnd at_end [] = at_end
IsLineEnd at_end (b ∷ bs) = b ≡ newline

-- The first lines were answered, and the next one took its step, but of its answer only this part was put, and not all.
pub record StopsInside (site : Setup) (old : Point) (at_end : Type 0) (talk : Talk) (part : List ℕ) : Type 0 where
  pub front : Talk
  pub lines : List (List ℕ)
  pub next : Exchange
  pub more : List ℕ
  pub whole : talk.read ≡ flat_map ended lines ++ (next.line ++ more)
  pub each : All HasNoNewline lines
  pub one : HasNoNewline next.line
  pub ends : IsLineEnd (at_end × (length talk.read < input_limit)) more
  pub asked : is_empty next.line ≡ false
  pub script : Script site old lines front
  pub step : Exchanges site front.point next talk.point
  pub exchanges : talk.exchanges ≡ front.exchanges
  pub used_moments : talk.moments ≡ front.moments ++ next.taken.moments
  pub used_words : talk.words ≡ front.words ++ next.taken.words
  pub put : talk.put ≡ front.put ++ part
  pub short : IsPart part (exchange_text site next)

-- What holds at each end of a run. After want of memory no part of an answer was put.
abbrev pub Ended : {T : Type 0} → Setup → Point → Result T Fault → Type 0 → Talk → Type 0
Ended site old (Ok done) at_end talk = AnswersAll site old talk × (length talk.read < input_limit) × at_end
Ended site old (Err Read) at_end talk = AnswersWhole site old talk × (length talk.read < input_limit)
Ended site old (Err InputTooLong) at_end talk = AnswersWhole site old talk × (length talk.read ≡ input_limit)
Ended site old (Err Write) at_end talk = (part : List ℕ) × StopsInside site old at_end talk part
Ended site old (Err Memory) at_end talk = AnswersFront site old talk ⊎ StopsInside site old at_end talk []

-- the run took all the bytes that it may take, or wanted memory
abbrev pub IsLimitEnd : {T : Type 0} → Result T Fault → Type 0
IsLimitEnd (Ok done) = ⊥
IsLimitEnd (Err Read) = ⊥
IsLimitEnd (Err InputTooLong) = Unit {0}
IsLimitEnd (Err Write) = ⊥
IsLimitEnd (Err Memory) = Unit {0}

-- how often a fault of a device was told
abbrev pub disk_faults : List Exchange → ℕ
disk_faults xs = count_by (λ x. tells_disk_fault x.answer) xs

abbrev pub clock_faults : List Exchange → ℕ
clock_faults xs = count_by (λ x. tells_clock_fault x.answer) xs

abbrev pub words_faults : List Exchange → ℕ
words_faults xs = count_by (λ x. tells_words_fault x.answer) xs

-- no fault is told more often than its device failed
pub record Counted (xs : List Exchange) (before now : Counts) : Type 0 where
  pub disk : RoseBy (disk_faults xs) before.disk now.disk
  pub clock : RoseBy (clock_faults xs) before.clock now.clock
  pub words : RoseBy (words_faults xs) before.words now.words

-- what was told before and after is told apart by the talk
pub record Carries (left_old left_new : Option (List ℕ)) (old new : Told) (talk : Talk) : Type 0 where
  pub read : Consumes left_old left_new talk.read
  pub put : Appends old.held new.held talk.put
  pub moments : Consumes old.moments new.moments talk.moments
  pub words : Consumes old.words new.words talk.words

-- the numbered requests that were answered with a reply, with these replies
abbrev pub handed : Setup → List Exchange → List Answered
handed site exchanges = flat_map (λ x. handed_for x.answer (asked_of site x.line)) exchanges

-- a run from what was loaded
pub record Ran {T : Type 0} (site : Setup) (loaded : Point) (left_old left_new : Option (List ℕ)) (old new : Told) (result : Result T Fault) (point : Point) (talk : Talk) : Type 0 where
  pub carries : Carries left_old left_new old new talk
  pub ended : Ended site loaded result (IsAtEnd left_new) talk
  pub limit : length talk.read ≡ input_limit → AnswersWhole site loaded talk → IsLimitEnd result
  pub within : length talk.read ≤ input_limit
  pub counted : Counted talk.exchanges loaded.counts point.counts
  pub point_is : talk.point ≡ point
