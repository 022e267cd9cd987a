-- What one request of a group does before anything is written.
use Rattle.std.specs.Prelude.{◌≡◌, ◌⊎◌, ◌≤◌, ◌<◌, ◌+◌, ◌*◌, ℕ, List, [], ◌∷◌, ◌++◌, length}
use Rattle.deed_words.specs.Setups.{Setup}
use Rattle.deed_words.specs.Numbers.{Means, Kept, Reused, Gap}
use Rattle.deed_words.specs.declared.deed.Deed.{Deed}
use Rattle.deed_words.specs.declared.reply.Reply.{Reply}
use Rattle.deed_words.specs.declared.entry.Ask.{Ask}
use Rattle.deed_words.specs.declared.entry.Entry.{Entry}
use Rattle.site_store.specs.declared.outcome.Outcome.{Outcome}
use Rattle.site_store.specs.declared.outcome.Outcome.TheVariants.{Replied, NumberReused, NumberGap, DiskFault, ClockFault, ClockRange, WordsFault, WordsSpent, JournalFull, Memory}
use Rattle.site_core.specs.declared.planned.Planned.{Planned}
use Rattle.entry_bytes.specs.Groups.{group_size}
use Rattle.site_store.specs.Moved.{Taken}
use Rattle.site_store.specs.Noting.{Noted, dones}
use Rattle.site_store.specs.Standing.{journal_limit}
use Rattle.site_store.specs.Steps.{Tries, faults_told}

-- from this history, these new entries of the group and these notes to come, to those
pub record Tried (site : Setup) (end : ℕ) (h h' front front' : List Entry) (noted noted' : List Noted) (worker : ℕ) (ask : Ask) (taken : Taken) (outcome : Outcome) : Type 0 where
  pub new : List Entry
  pub tries : Tries site end h front worker ask taken outcome new
  pub history_is : h' ≡ h ++ new
  pub front_is : front' ≡ front ++ new
  pub noted_is : noted' ≡ noted ++ (faults_told worker outcome ++ dones worker (length h) new)

-- the kept reply once more, or want of memory
abbrev pub IsRepeat : Reply → Outcome → Type 0
IsRepeat kept outcome = (outcome ≡ Replied kept) ⊎ (outcome ≡ Memory)

-- what is answered where the number isn't the station's next one: nothing is done
abbrev pub IsKnown : Setup → List Entry → Ask → Outcome → Type 0
IsKnown site history ask (Replied reply) = Means site history ask.station ask.number ask.deed (Kept reply)
IsKnown site history ask NumberReused = (kept : Deed) × Means site history ask.station ask.number ask.deed (Reused kept)
IsKnown site history ask (NumberGap last) = Means site history ask.station ask.number ask.deed (Gap last)
IsKnown site history ask Memory = Unit {0}
IsKnown site history ask outcome = ⊥

-- what comes of a planned entry
abbrev pub Keeps : ℕ → List Entry → Planned → Outcome → List Entry → Type 0
Keeps end front planned (Replied reply) new = (reply ≡ planned.reply) × (end + 6 + group_size (front ++ planned.entry ∷ []) ≤ journal_limit) × (new ≡ planned.entry ∷ [])
Keeps end front planned (JournalFull told asked) new = (told ≡ end) × (asked ≡ group_size (front ++ planned.entry ∷ [])) × (journal_limit < end + 6 + asked) × (new ≡ [])
Keeps end front planned Memory new = new ≡ []
Keeps end front planned DiskFault new = ⊥
Keeps end front planned NumberReused new = ⊥
Keeps end front planned (NumberGap last) new = ⊥
Keeps end front planned ClockFault new = ⊥
Keeps end front planned (ClockRange ms) new = ⊥
Keeps end front planned WordsFault new = ⊥
Keeps end front planned (WordsSpent found) new = ⊥

pub record KeptOne (end : ℕ) (h h' front front' : List Entry) (noted noted' : List Noted) (worker : ℕ) (planned : Planned) (outcome : Outcome) : Type 0 where
  pub new : List Entry
  pub keeps : Keeps end front planned outcome new
  pub history_is : h' ≡ h ++ new
  pub front_is : front' ≡ front ++ new
  pub noted_is : noted' ≡ noted ++ (faults_told worker outcome ++ dones worker (length h) new)

-- there is room for one entry more, with its note, with that of a fault, and with one more for each entry that may be left pending
pub record HasPlace (rows row_spare committed committed_spare spare pending_spare : ℕ) : Type 0 where
  pub row : 1 ≤ row_spare
  pub entry : 1 ≤ committed_spare
  pub notes : rows + 1 + 2 * (committed + 1) ≤ spare
  pub may_pend : committed + 1 ≤ pending_spare
