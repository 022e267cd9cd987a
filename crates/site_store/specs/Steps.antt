-- One step of a store: what the requests of a group are answered, and what the group does to the history, to what is
-- pending and to the notes.
use Rattle.std.specs.Prelude.{◌≡◌, ◌≢◌, ◌⊎◌, ◌<◌, ◌≤◌, ◌+◌, max, ℕ, List, [], ◌∷◌, ◌++◌, length, map, Option}
use Rattle.deed_words.specs.Names.{Text}
use Rattle.deed_words.specs.Setups.{Setup}
use Rattle.deed_words.specs.declared.entry.Ask.{Ask}
use Rattle.deed_words.specs.declared.entry.Entry.{Entry}
use Rattle.deed_words.specs.declared.entry.FaultKind.TheVariants as kind
use Rattle.deed_words.specs.declared.reply.Reply.{Reply}
use Rattle.deed_words.specs.declared.deed.Deed.{Deed}
use Rattle.deed_words.specs.declared.rule.Rule.{Rule}
use Rattle.deed_words.specs.Rules.{broken}
use Rattle.deed_words.specs.Replies.{reply_to}
use Rattle.deed_words.specs.History.{world_of, last_stamp, MayFollow}
use Rattle.deed_words.specs.Numbers.{Means, Meaning, Kept, Reused, New, Gap}
use Rattle.site_deeds.specs.Draws.{Draws, Spends, Stops, MayTake}
use Rattle.site_core.specs.Plans.{entry_of}
use Rattle.site_store.specs.declared.outcome.Outcome.{Outcome}
use Rattle.site_store.specs.declared.outcome.Outcome.TheVariants.{Replied, NumberReused, NumberGap, DiskFault, ClockFault, ClockRange, WordsFault, WordsSpent, JournalFull, Memory}
use Rattle.entry_bytes.specs.Groups.{group_size}
use Rattle.site_store.specs.Entries.{latest}
use Rattle.site_store.specs.Standing.{journal_limit}
use Rattle.site_store.specs.States.{State, all_of, settled}
use Rattle.site_store.specs.Noting.{Noted, dones, fault}
use Rattle.site_store.specs.Moved.{Taken, nothing_taken}

-- the rule that the request breaks behind this history
abbrev pub rule_at : Setup → List Entry → Ask → Option Rule
rule_at site g ask = broken site (world_of site g) ask.station ask.deed

-- the stamp of an entry behind this history where the clock gives this moment
abbrev pub stamp_at : ℕ → List Entry → ℕ
stamp_at ms g = max (last_stamp g) ms

-- ---- what comes of one request behind a history

-- the number means this, and no device is asked
pub record Finds (site : Setup) (g : List Entry) (ask : Ask) (taken : Taken) (meaning : Meaning) : Type 0 where
  pub means : Means site g ask.station ask.number ask.deed meaning
  pub nothing : taken ≡ nothing_taken

-- the number was kept with another deed, and no device is asked
pub record FindsOther (site : Setup) (g : List Entry) (ask : Ask) (taken : Taken) : Type 0 where
  pub kept : Deed
  pub finds : Finds site g ask taken (Reused kept)

-- the number is the station's next one, and the clock gave one moment, which is past its range
pub record PassesRange (site : Setup) (g : List Entry) (ask : Ask) (taken : Taken) (ms : ℕ) : Type 0 where
  pub means : Means site g ask.station ask.number ask.deed New
  pub took : taken ≡ record { moments = ms ∷ []; words = [] }
  pub past : latest < ms

-- the number is the station's next one, and the clock gave one moment, in range
pub record Comes (site : Setup) (g : List Entry) (ask : Ask) (taken : Taken) (ms : ℕ) : Type 0 where
  pub means : Means site g ask.station ask.number ask.deed New
  pub moment : taken.moments ≡ ms ∷ []
  pub in_range : ms ≤ latest

-- .. and a word for a draw that breaks no rule couldn't be had
pub record LacksWords (site : Setup) (g : List Entry) (ask : Ask) (taken : Taken) : Type 0 where
  pub ms : ℕ
  pub comes : Comes site g ask taken ms
  pub stops : Stops site (world_of site g) (rule_at site g ask) ask.deed taken.words

-- .. and all the words that such a draw may take held only so many new serials
pub record SpendsWords (site : Setup) (g : List Entry) (ask : Ask) (taken : Taken) (found : ℕ) : Type 0 where
  pub ms : ℕ
  pub comes : Comes site g ask taken ms
  pub spends : Spends site (world_of site g) (rule_at site g ask) ask.deed taken.words found

-- .. and the request becomes this entry, which draws from the words taken
pub record Makes (site : Setup) (g : List Entry) (worker : ℕ) (ask : Ask) (taken : Taken) (entry : Entry) : Type 0 where
  pub ms : ℕ
  pub drawn : List Text
  pub comes : Comes site g ask taken ms
  pub entry_is : entry ≡ entry_of worker ask (stamp_at ms g) drawn
  pub draws : Draws site (world_of site g) (rule_at site g ask) ask.deed taken.words drawn
  pub follows : MayFollow site g (world_of site g) entry

-- want of memory: no device was asked, or the number is the station's next one, the clock gave one moment, in range, and
-- no more words were taken than the deed may take
abbrev pub WantsMemory : Setup → List Entry → Ask → Taken → Type 0
WantsMemory site g ask taken = (taken ≡ nothing_taken) ⊎ ((ms : ℕ) × Comes site g ask taken ms × MayTake (rule_at site g ask) ask.deed taken.words)

-- behind this end of the journal the entry doesn't fit into one payload with those in front of it
pub record FindsFull (site : Setup) (end : ℕ) (g front : List Entry) (worker : ℕ) (ask : Ask) (taken : Taken) (told asked : ℕ) : Type 0 where
  pub entry : Entry
  pub makes : Makes site g worker ask taken entry
  pub end_is : told ≡ end
  pub asked_is : asked ≡ group_size (front ++ entry ∷ [])
  pub full : journal_limit < end + 6 + asked

-- it fits, and the reply is the one that it gets
pub record Enters (site : Setup) (end : ℕ) (g front : List Entry) (worker : ℕ) (ask : Ask) (taken : Taken) (reply : Reply) (new : List Entry) : Type 0 where
  pub entry : Entry
  pub makes : Makes site g worker ask taken entry
  pub fits : end + 6 + group_size (front ++ entry ∷ []) ≤ journal_limit
  pub reply_is : reply ≡ reply_to site (world_of site g) entry
  pub new_is : new ≡ entry ∷ []

-- What a request is answered behind a history which ends with those new entries of its group that stand in front of it,
-- and its new entry, if it has one. Nothing was written yet.
abbrev pub Tries : Setup → ℕ → List Entry → List Entry → ℕ → Ask → Taken → Outcome → List Entry → Type 0
Tries site end g front worker ask taken (Replied reply) new =
    (Finds site g ask taken (Kept reply) × (new ≡ [])) ⊎ Enters site end g front worker ask taken reply new
Tries site end g front worker ask taken NumberReused new = FindsOther site g ask taken × (new ≡ [])
Tries site end g front worker ask taken (NumberGap last) new = Finds site g ask taken (Gap last) × (new ≡ [])
Tries site end g front worker ask taken ClockFault new = Finds site g ask taken New × (new ≡ [])
Tries site end g front worker ask taken (ClockRange ms) new = PassesRange site g ask taken ms × (new ≡ [])
Tries site end g front worker ask taken WordsFault new = LacksWords site g ask taken × (new ≡ [])
Tries site end g front worker ask taken (WordsSpent found) new = SpendsWords site g ask taken found × (new ≡ [])
Tries site end g front worker ask taken (JournalFull told asked) new = FindsFull site end g front worker ask taken told asked × (new ≡ [])
Tries site end g front worker ask taken DiskFault new = ⊥
Tries site end g front worker ask taken Memory new = WantsMemory site g ask taken × (new ≡ [])

-- ---- the requests of a group

-- a request, what it took, what it is answered if what is new is written, and its new entry, if it has one
pub record Try : Type 0 where
  pub ask : Ask
  pub taken : Taken
  pub outcome : Outcome
  pub new : List Entry

-- each of them, behind those in front of it
abbrev pub AreTries : Setup → ℕ → List Entry → List Entry → ℕ → List Try → Type 0
AreTries site end g front worker [] = Unit {0}
AreTries site end g front worker (t ∷ ts) =
    Tries site end g front worker t.ask t.taken t.outcome t.new × AreTries site end (g ++ t.new) (front ++ t.new) worker ts

abbrev pub asks_in : List Try → List Ask
asks_in ts = map (λ t. t.ask) ts

abbrev pub outcomes_in : List Try → List Outcome
outcomes_in ts = map (λ t. t.outcome) ts

-- the new entries
abbrev pub new_in : List Try → List Entry
new_in [] = []
new_in (t ∷ ts) = t.new ++ new_in ts

abbrev pub taken_in : List Try → Taken
taken_in [] = nothing_taken
taken_in (t ∷ ts) = record { moments = t.taken.moments ++ (taken_in ts).moments; words = t.taken.words ++ (taken_in ts).words }

-- from the first request with a new entry on, each is answered that the disk failed
abbrev pub lost_from : List Entry → Outcome → List Try → List Outcome → List Outcome
lost_from [] outcome ts later = outcome ∷ later
lost_from (entry ∷ entries) outcome ts later = DiskFault ∷ map (λ t. DiskFault) ts

abbrev pub lost_in : List Try → List Outcome
lost_in [] = []
lost_in (t ∷ ts) = lost_from t.new t.outcome ts (lost_in ts)

-- the fault that an answer tells
abbrev pub faults_told : ℕ → Outcome → List Noted
faults_told worker ClockFault = fault kind.Clock worker []
faults_told worker (ClockRange ms) = fault kind.Range worker []
faults_told worker WordsFault = fault kind.Words worker []
faults_told worker (WordsSpent found) = fault kind.Spent worker []
faults_told worker outcome = []

-- the fault or the Done of each, the first entry at this place of the history
abbrev pub notes_in : ℕ → ℕ → List Try → List Noted
notes_in worker place [] = []
notes_in worker place (t ∷ ts) = (faults_told worker t.outcome ++ dones worker place t.new) ++ notes_in worker (place + length t.new) ts

abbrev pub faults_in : ℕ → List Try → List Noted
faults_in worker [] = []
faults_in worker (t ∷ ts) = faults_told worker t.outcome ++ faults_in worker ts

-- what is new, if anything, was written, and is in the history
pub record Written (g : List Entry) (worker : ℕ) (ts : List Try) (outcomes : List Outcome) (new : State) (more : List Noted) : Type 0 where
  pub outcomes_are : outcomes ≡ outcomes_in ts
  pub state : new ≡ settled (g ++ new_in ts)
  pub notes_are : more ≡ notes_in worker (length g) ts

-- the one append failed: nothing is pending after its first two calls, all that is new after its last two
pub record Lost (g : List Entry) (worker : ℕ) (ts : List Try) (outcomes : List Outcome) (new : State) (more : List Noted) : Type 0 where
  pub some : new_in ts ≢ []
  pub outcomes_are : outcomes ≡ lost_in ts
  pub history : new.history ≡ g
  pub pending : (new.pending ≡ []) ⊎ (new.pending ≡ new_in ts)
  pub notes_are : more ≡ faults_in worker ts ++ fault kind.Disk worker new.pending

-- What the requests of a group are answered behind a history with nothing pending, where the journal ends there.
pub record Answers (site : Setup) (end : ℕ) (g : List Entry) (worker : ℕ) (asks : List Ask) (taken : Taken) (outcomes : List Outcome) (new : State) (more : List Noted) : Type 0 where
  pub tries : List Try
  pub asks_are : asks ≡ asks_in tries
  pub taken_is : taken ≡ taken_in tries
  pub are : AreTries site end g [] worker tries
  pub comes : Written g worker tries outcomes new more ⊎ Lost g worker tries outcomes new more

-- ---- with something pending

-- The mend of what is pending failed, and everything stays. Want of memory is for the note of this fault.
pub record Unmended (old : State) (worker : ℕ) (asks : List Ask) (taken : Taken) (outcomes : List Outcome) (new : State) (notes : List Noted) : Type 0 where
  pub behind : old.pending ≢ []
  pub nothing : taken ≡ nothing_taken
  pub stays : new ≡ old
  pub told : ((outcomes ≡ map (λ ask. DiskFault) asks) × (notes ≡ fault kind.Disk worker [])) ⊎ ((outcomes ≡ map (λ ask. Memory) asks) × (notes ≡ []))

-- What is pending, if anything, was put into the history first.
pub record Mended (site : Setup) (end : ℕ) (old : State) (worker : ℕ) (asks : List Ask) (taken : Taken) (outcomes : List Outcome) (new : State) (notes : List Noted) : Type 0 where
  pub more : List Noted
  pub notes_are : notes ≡ dones worker (length old.history) old.pending ++ more
  pub answers : Answers site end (all_of old) worker asks taken outcomes new more

-- One step, where the journal ends there once what is pending was put into it.
abbrev pub Steps : Setup → ℕ → State → ℕ → List Ask → Taken → List Outcome → State → List Noted → Type 0
Steps site end old worker asks taken outcomes new notes =
    Unmended old worker asks taken outcomes new notes ⊎ Mended site end old worker asks taken outcomes new notes
