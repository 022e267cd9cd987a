-- One step of a store with one request: what it is answered, and what it does to the history, to what is pending and to
-- the notes.
use Rattle.std.specs.Prelude.{◌≡◌, ◌≢◌, ◌⊎◌, ◌≤◌, ◌+◌, ℕ, List, [], ◌∷◌, ◌++◌, length}
use Rattle.deed_words.specs.Setups.{Setup}
use Rattle.deed_words.specs.declared.entry.Ask.{Ask}
use Rattle.deed_words.specs.declared.entry.Entry.{Entry}
use Rattle.deed_words.specs.declared.entry.FaultKind.TheVariants as kind
use Rattle.deed_words.specs.declared.reply.Reply.{Reply}
use Rattle.deed_words.specs.Replies.{reply_to}
use Rattle.deed_words.specs.History.{world_of}
use Rattle.deed_words.specs.Numbers.{Kept, New, Gap}
use Rattle.site_store.specs.declared.outcome.Outcome.{Outcome}
use Rattle.site_store.specs.declared.outcome.Outcome.TheVariants.{Replied, NumberReused, NumberGap, DiskFault, ClockFault, ClockRange, WordsFault, WordsSpent, JournalFull, Memory}
use Rattle.entry_bytes.specs.Groups.{group_size}
use Rattle.site_store.specs.Standing.{journal_limit}
use Rattle.site_store.specs.States.{State, all_of, settled}
use Rattle.site_store.specs.Noting.{Noted, dones, fault}
use Rattle.site_store.specs.Moved.{Taken, nothing_taken}
use Rattle.site_store.specs.Steps.{Finds, FindsOther, WantsMemory, PassesRange, LacksWords, SpendsWords, Makes, FindsFull}

-- the entry fits
pub record Fits (site : Setup) (end : ℕ) (g : List Entry) (worker : ℕ) (ask : Ask) (taken : Taken) (entry : Entry) : Type 0 where
  pub makes : Makes site g worker ask taken entry
  pub fits : end + 6 + group_size (entry ∷ []) ≤ journal_limit

-- ---- the state and the notes that it leaves

-- the history stays, and these notes come
pub record Stays (g : List Entry) (notes : List Noted) (new : State) (more : List Noted) : Type 0 where
  pub state : new ≡ settled g
  pub notes_are : more ≡ notes

-- a call of the append failed: nothing is pending after its first two calls, the entry after its last two
pub record Fails (site : Setup) (end : ℕ) (g : List Entry) (worker : ℕ) (ask : Ask) (taken : Taken) (new : State) (more : List Noted) : Type 0 where
  pub entry : Entry
  pub fits : Fits site end g worker ask taken entry
  pub history : new.history ≡ g
  pub pending : (new.pending ≡ []) ⊎ (new.pending ≡ entry ∷ [])
  pub notes_are : more ≡ fault kind.Disk worker new.pending

-- the entry is in the history, and the reply is the one that it gets
pub record Acts (site : Setup) (end : ℕ) (g : List Entry) (worker : ℕ) (ask : Ask) (taken : Taken) (reply : Reply) (new : State) (more : List Noted) : Type 0 where
  pub entry : Entry
  pub fits : Fits site end g worker ask taken entry
  pub reply_is : reply ≡ reply_to site (world_of site g) entry
  pub state : new ≡ settled (g ++ entry ∷ [])
  pub notes_are : more ≡ dones worker (length g) (entry ∷ [])

-- What a request is answered behind a history with nothing pending, where the journal ends there.
abbrev pub Answers : Setup → ℕ → List Entry → ℕ → Ask → Taken → Outcome → State → List Noted → Type 0
Answers site end g worker ask taken (Replied reply) new more =
    (Finds site g ask taken (Kept reply) × Stays g [] new more) ⊎ Acts site end g worker ask taken reply new more
Answers site end g worker ask taken NumberReused new more = FindsOther site g ask taken × Stays g [] new more
Answers site end g worker ask taken (NumberGap last) new more = Finds site g ask taken (Gap last) × Stays g [] new more
Answers site end g worker ask taken ClockFault new more = Finds site g ask taken New × Stays g (fault kind.Clock worker []) new more
Answers site end g worker ask taken (ClockRange ms) new more = PassesRange site g ask taken ms × Stays g (fault kind.Range worker []) new more
Answers site end g worker ask taken WordsFault new more = LacksWords site g ask taken × Stays g (fault kind.Words worker []) new more
Answers site end g worker ask taken (WordsSpent found) new more = SpendsWords site g ask taken found × Stays g (fault kind.Spent worker []) new more
Answers site end g worker ask taken (JournalFull told asked) new more = FindsFull site end g [] worker ask taken told asked × Stays g [] new more
Answers site end g worker ask taken DiskFault new more = Fails site end g worker ask taken new more
Answers site end g worker ask taken Memory new more = WantsMemory site g ask taken × Stays g [] new more

-- ---- with something pending

-- The mend of what is pending failed, and everything stays. Want of memory is for the note of this fault.
pub record Unmended (old : State) (worker : ℕ) (taken : Taken) (outcome : Outcome) (new : State) (notes : List Noted) : Type 0 where
  pub behind : old.pending ≢ []
  pub nothing : taken ≡ nothing_taken
  pub stays : new ≡ old
  pub told : ((outcome ≡ DiskFault) × (notes ≡ fault kind.Disk worker [])) ⊎ ((outcome ≡ Memory) × (notes ≡ []))

-- What is pending, if anything, was put into the history first.
pub record Mended (site : Setup) (end : ℕ) (old : State) (worker : ℕ) (ask : Ask) (taken : Taken) (outcome : Outcome) (new : State) (notes : List Noted) : Type 0 where
  pub more : List Noted
  pub notes_are : notes ≡ dones worker (length old.history) old.pending ++ more
  pub answers : Answers site end (all_of old) worker ask taken outcome new more

-- One step, where the journal ends there once what is pending was put into it.
abbrev pub Steps : Setup → ℕ → State → ℕ → Ask → Taken → Outcome → State → List Noted → Type 0
Steps site end old worker ask taken outcome new notes =
    Unmended old worker taken outcome new notes ⊎ Mended site end old worker ask taken outcome new notes
