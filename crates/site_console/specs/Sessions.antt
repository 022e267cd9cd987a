-- A run on a journal: what it read, put and took, how it ended, and what the disk holds then and since the start.
use Rattle.std.specs.Prelude.{◌≡◌, ◌⊎◌, ℕ, List, Option, Result}
use Rattle.outside.specs.Causes.{HasCauseIf}
use Rattle.outside.specs.Disks.{LeavesOnly, Tells as OfContent}
use Rattle.outside.specs.declared.disk.Disk as disk
use Rattle.outside.specs.declared.devices.Words as words
use Rattle.outside.specs.declared.clock.Clock as clock
use Rattle.deed_words.specs.Setups.{Setup}
use Rattle.deed_words.specs.declared.entry.Entry.{Entry}
use Rattle.deed_words.specs.History.{IsLawful}
use Rattle.gate_journal.specs.Readings.{Untouched}
use Rattle.site_store.specs.declared.store.Devices.{Devices}
use Rattle.site_store.specs.Held.{Held}
use Rattle.site_store.specs.Images.{HoldsState}
use Rattle.site_store.specs.Open.{HoldsSince}
use Rattle.site_store.specs.Readings.{ReadsAs, Nothing, Bad, Kept}
use Rattle.site_store.specs.States.{State, all_of, settled}
use Rattle.site_store.specs.Stops.{Answered, AllKept}
use Rattle.site_console.specs.declared.ending.Ending.{Ending}
use Rattle.site_console.specs.declared.ending.Ending.TheVariants.{NoJournal, JournalBad, DiskFault, NoMemory}
use Rattle.site_console.specs.declared.fault.Fault.{Fault}
use Rattle.site_console.specs.Endings.{ending_of, is_read_ending, is_write_ending, is_disk_ending}
use Rattle.site_console.specs.Open.{counts_of, told_of}
use Rattle.site_console.specs.Promises.{Promises}
use Rattle.site_console.specs.Script.{Talk, Ran, handed}
use Rattle.site_console.specs.Told.{Stream}

-- why the journal couldn't be loaded
abbrev pub Refuses : Option (List ℕ) → Ending → Type 0
Refuses content NoJournal = OfContent content (ReadsAs Nothing)
Refuses content (JournalBad place) = OfContent content (ReadsAs (Bad place))
Refuses content DiskFault = Unit {0}
Refuses content NoMemory = Unit {0}
Refuses content ending = ⊥

-- The journal couldn't be loaded: the disk was only read, and nothing else was touched.
pub record NotLoaded {D C W : Type 0} (g : disk.Ghosts D) (old new : Devices D C W) (input_old input_new out_old out_new : Stream) (ending : Ending) : Type 0 where
  pub refuses : Refuses (g.content old.disk) ending
  pub cause : HasCauseIf (is_disk_ending ending) (g.disk_faults old.disk) (g.disk_faults new.disk)
  pub disk : Untouched g.content g.image g.moment g.image_since old.disk new.disk
  pub clock : new.clock ≡ old.clock
  pub words : new.words ≡ old.words
  pub input : input_new ≡ input_old
  pub out : out_new ≡ out_old

-- the bytes hold a history in which each of these requests is kept with the reply that was handed out
pub record HoldsAnswers (site : Setup) (answers : List Answered) (bytes : List ℕ) : Type 0 where
  pub history : List Entry
  pub held : Held site history bytes
  pub kept : AllKept site history answers

-- The journal was loaded, and the run went on from its history.
pub record RanFrom {D C W : Type 0} (g : disk.Ghosts D) (k : clock.Ghosts C) (w : words.Ghosts W) (old new : Devices D C W) (input_old input_new out_old out_new : Stream) (ending : Ending) : Type 0 where
  pub site : Setup
  pub history : List Entry
  pub result : Result (Unit {0}) Fault
  pub state : State
  pub talk : Talk
  pub ending_is : ending ≡ ending_of result
  pub loaded : OfContent (g.content old.disk) (ReadsAs (Kept site history))
  -- the script, from what was loaded
  pub ran : Ran site (record { state = settled history; counts = counts_of g k w old.disk old.clock old.words }) input_old.bytes input_new.bytes
      (told_of k w out_old.bytes old.clock old.words) (told_of k w out_new.bytes new.clock new.words) result
      (record { state = state; counts = counts_of g k w new.disk new.clock new.words }) talk
  -- what each image holds at the return, and at each moment since the start
  pub at_return : (c : List ℕ) → g.image new.disk c → HoldsState site state c
  pub since_start : LeavesOnly g.moment g.image_since old.disk new.disk (HoldsSince (g.image old.disk) site history (all_of state))
  -- what was answered is kept
  pub answered : (c : List ℕ) → g.image new.disk c → HoldsAnswers site (handed site talk.exchanges) c
  pub lawful : IsLawful site (all_of state)
  pub promises : Promises site (all_of state)

-- A run, and each fault of a source or a sink with its cause.
pub record RunSession {D C W : Type 0} (g : disk.Ghosts D) (k : clock.Ghosts C) (w : words.Ghosts W) (old new : Devices D C W) (input_old input_new out_old out_new : Stream) (ending : Ending) : Type 0 where
  pub comes : NotLoaded g old new input_old input_new out_old out_new ending ⊎ RanFrom g k w old new input_old input_new out_old out_new ending
  pub read : HasCauseIf (is_read_ending ending) input_old.faults input_new.faults
  pub write : HasCauseIf (is_write_ending ending) out_old.faults out_new.faults
