-- Endings, and their causes.
use Rattle.std.proofs.Common.{◌≡◌, ◌⊎◌, ℕ, Bool, true, false, List, [], Option, Result, Ok, Err, inl, inr, refl, arith}
use Rattle.outside.specs.Causes.{HasCauseIf}
use Rattle.outside.specs.Disks.{Tells as OfContent}
use Rattle.outside.specs.declared.disk.Disk as disk
use Rattle.deed_words.specs.Setups.{Setup}
use Rattle.gate_journal.specs.Grammar.{IsThere}
use Rattle.site_store.specs.declared.load.StoreFault.{StoreFault}
use Rattle.site_store.specs.declared.load.StoreFault.TheVariants as store
use Rattle.site_store.specs.Loads.{is_disk}
use Rattle.site_store.specs.Readings.{ReadsAs, Nothing, Bad}
use Rattle.site_console.specs.declared.ending.Ending.{Ending}
use Rattle.site_console.specs.declared.ending.Ending.TheVariants.{Done, BadWords, Unreadable, JournalThere, NoJournal, JournalBad, ReadFault, WriteFault, DiskFault, UnknownBatch, NoMemory, DoorFault, TooLong}
use Rattle.site_console.specs.declared.fault.Fault.{Fault}
use Rattle.site_console.specs.declared.fault.Fault.TheVariants.{Read, Write, Memory, InputTooLong}
use Rattle.site_console.specs.declared.site_file.SiteFault.{SiteFault}
use Rattle.site_console.specs.declared.site_file.SiteFault.TheVariants as site
use Rattle.site_console.specs.Endings.{ending_of, ending_of_store, is_read_ending, is_write_ending, is_disk_ending}
use Rattle.site_console.specs.Files.{ending_of_file, is_source_fault}
use Rattle.site_console.specs.Inits.{IsMade, IsReadyPut, MakeEnds}
use Rattle.site_console.specs.Lines.{is_read_fault}
use Rattle.site_console.specs.Serving.{is_write_fault}
use Rattle.site_console.specs.Sessions.{Refuses}

same_count : (n : ℕ) → HasCauseIf false n n
same_count n = record { later = omega arith; failed = tt; kept = refl }

-- ---- of a run

pub run_read : (result : Result (Unit {0}) Fault) (before now : ℕ) → HasCauseIf (is_read_fault result) before now → HasCauseIf (is_read_ending (ending_of result)) before now
run_read (Ok done) before now cause = cause
run_read (Err Read) before now cause = cause
run_read (Err Write) before now cause = cause
run_read (Err Memory) before now cause = cause
run_read (Err InputTooLong) before now cause = cause

pub run_write : (result : Result (Unit {0}) Fault) (before now : ℕ) → HasCauseIf (is_write_fault result) before now → HasCauseIf (is_write_ending (ending_of result)) before now
run_write (Ok done) before now cause = cause
run_write (Err Read) before now cause = cause
run_write (Err Write) before now cause = cause
run_write (Err Memory) before now cause = cause
run_write (Err InputTooLong) before now cause = cause

-- ---- of a store that couldn't be made or loaded

pub store_read : (fault : StoreFault) (n : ℕ) → HasCauseIf (is_read_ending (ending_of_store fault)) n n
store_read store.Disk n = same_count n
store_read store.JournalThere n = same_count n
store_read store.NoJournal n = same_count n
store_read (store.Bad place) n = same_count n
store_read store.Memory n = same_count n

pub store_write : (fault : StoreFault) (n : ℕ) → HasCauseIf (is_write_ending (ending_of_store fault)) n n
store_write store.Disk n = same_count n
store_write store.JournalThere n = same_count n
store_write store.NoJournal n = same_count n
store_write (store.Bad place) n = same_count n
store_write store.Memory n = same_count n

pub store_disk : (fault : StoreFault) (before now : ℕ) → HasCauseIf (is_disk fault) before now → HasCauseIf (is_disk_ending (ending_of_store fault)) before now
store_disk store.Disk before now cause = cause
store_disk store.JournalThere before now cause = cause
store_disk store.NoJournal before now cause = cause
store_disk (store.Bad place) before now cause = cause
store_disk store.Memory before now cause = cause

-- why it wasn't loaded
pub load_refuses : (content : Option (List ℕ)) (fault : StoreFault) → (fault ≡ store.Disk) ⊎ ((fault ≡ store.Memory) ⊎ ((fault ≡ store.NoJournal) ⊎ ((place : ℕ) × (fault ≡ store.Bad place))))
    → (fault ≡ store.NoJournal → OfContent content (ReadsAs Nothing)) → ((place : ℕ) → fault ≡ store.Bad place → OfContent content (ReadsAs (Bad place))) → Refuses content (ending_of_store fault)
load_refuses content store.Disk which none bad = tt
load_refuses content store.Memory which none bad = tt
load_refuses content store.NoJournal which none bad = none refl
load_refuses content (store.Bad place) which none bad = bad place refl
load_refuses content store.JournalThere (inl e) none bad = absurd cc
load_refuses content store.JournalThere (inr (inl e)) none bad = absurd cc
load_refuses content store.JournalThere (inr (inr (inl e))) none bad = absurd cc
load_refuses content store.JournalThere (inr (inr (inr e))) none bad = absurd (let f = e.1 in cc)

-- why it wasn't made
pub make_refuses : {D : Type 0} (g : disk.Ghosts D) (site : Setup) (old new : D) (fault : StoreFault) → (fault ≡ store.Disk) ⊎ ((fault ≡ store.Memory) ⊎ (fault ≡ store.JournalThere))
    → (fault ≡ store.JournalThere → OfContent (g.content old) IsThere) → MakeEnds g site old new (ending_of_store fault) []
make_refuses g site old new store.Disk which there = refl
make_refuses g site old new store.Memory which there = refl
make_refuses g site old new store.JournalThere which there = (there refl, refl)
make_refuses g site old new store.NoJournal (inl e) there = absurd cc
make_refuses g site old new store.NoJournal (inr (inl e)) there = absurd cc
make_refuses g site old new store.NoJournal (inr (inr e)) there = absurd cc
make_refuses g site old new (store.Bad place) (inl e) there = absurd cc
make_refuses g site old new (store.Bad place) (inr (inl e)) there = absurd cc
make_refuses g site old new (store.Bad place) (inr (inr e)) there = absurd cc

-- ---- of a journal that was made

pub ready_ends : {D : Type 0} (g : disk.Ghosts D) (site : Setup) (old new : D) (ending : Ending) (put : List ℕ) → IsReadyPut ending put → IsMade g site old new → MakeEnds g site old new ending put
ready_ends g site old new Done put is made = (made, is)
ready_ends g site old new WriteFault put is made = (made, is)
ready_ends g site old new BadWords put is made = absurd is
ready_ends g site old new (Unreadable kind) put is made = absurd is
ready_ends g site old new JournalThere put is made = absurd is
ready_ends g site old new NoJournal put is made = absurd is
ready_ends g site old new (JournalBad place) put is made = absurd is
ready_ends g site old new ReadFault put is made = absurd is
ready_ends g site old new DiskFault put is made = absurd is
ready_ends g site old new UnknownBatch put is made = absurd is
ready_ends g site old new NoMemory put is made = absurd is
ready_ends g site old new DoorFault put is made = absurd is
ready_ends g site old new TooLong put is made = absurd is

pub ready_disk : (ending : Ending) (put : List ℕ) (before now : ℕ) → IsReadyPut ending put → now ≡ before → HasCauseIf (is_disk_ending ending) before now
ready_disk Done put before now is same = record { later = omega (arith, same); failed = tt; kept = same }
ready_disk WriteFault put before now is same = record { later = omega (arith, same); failed = tt; kept = same }
ready_disk BadWords put before now is same = absurd is
ready_disk (Unreadable kind) put before now is same = absurd is
ready_disk JournalThere put before now is same = absurd is
ready_disk NoJournal put before now is same = absurd is
ready_disk (JournalBad place) put before now is same = absurd is
ready_disk ReadFault put before now is same = absurd is
ready_disk DiskFault put before now is same = absurd is
ready_disk UnknownBatch put before now is same = absurd is
ready_disk NoMemory put before now is same = absurd is
ready_disk DoorFault put before now is same = absurd is
ready_disk TooLong put before now is same = absurd is

-- what isn't a fault of the source, where the journal was made or not
pub makes_no_read : {D : Type 0} (g : disk.Ghosts D) (site : Setup) (old new : D) (ending : Ending) (put : List ℕ) → MakeEnds g site old new ending put → is_read_ending ending ≡ false
makes_no_read g site old new Done put is = refl
makes_no_read g site old new WriteFault put is = refl
makes_no_read g site old new JournalThere put is = refl
makes_no_read g site old new DiskFault put is = refl
makes_no_read g site old new UnknownBatch put is = refl
makes_no_read g site old new NoMemory put is = refl
makes_no_read g site old new BadWords put is = refl
makes_no_read g site old new (Unreadable kind) put is = refl
makes_no_read g site old new NoJournal put is = refl
makes_no_read g site old new (JournalBad place) put is = refl
makes_no_read g site old new ReadFault put is = absurd is
makes_no_read g site old new DoorFault put is = refl
makes_no_read g site old new TooLong put is = refl

-- ---- of a site file that gives no setup

pub file_read : (fault : SiteFault) (before now : ℕ) → HasCauseIf (is_source_fault {T = Setup} (Err fault)) before now → HasCauseIf (is_read_ending (ending_of_file fault)) before now
file_read (site.Unreadable kind) before now cause = cause
file_read site.Source before now cause = cause
file_read site.Memory before now cause = cause

pub file_write : (fault : SiteFault) (n : ℕ) → HasCauseIf (is_write_ending (ending_of_file fault)) n n
file_write (site.Unreadable kind) n = same_count n
file_write site.Source n = same_count n
file_write site.Memory n = same_count n

-- ---- of refused words, and of doors

-- the endings that no command with a journal has here
abbrev pub is_apart : Ending → Bool
is_apart BadWords = true
is_apart DoorFault = true
is_apart ending = false

pub run_apart : (result : Result (Unit {0}) Fault) → is_apart (ending_of result) ≡ true → ⊥
run_apart (Ok done) e = cc
run_apart (Err Read) e = cc
run_apart (Err Write) e = cc
run_apart (Err Memory) e = cc
run_apart (Err InputTooLong) e = cc

pub load_apart : (content : Option (List ℕ)) (ending : Ending) → is_apart ending ≡ true → Refuses content ending → ⊥
load_apart content NoJournal e refuses = cc
load_apart content (JournalBad place) e refuses = cc
load_apart content DiskFault e refuses = cc
load_apart content NoMemory e refuses = cc
load_apart content ending e refuses = refuses

pub make_apart : {D : Type 0} (g : disk.Ghosts D) (site : Setup) (old new : D) (ending : Ending) (put : List ℕ) → is_apart ending ≡ true → MakeEnds g site old new ending put → ⊥
make_apart g site old new Done put e made = cc
make_apart g site old new WriteFault put e made = cc
make_apart g site old new JournalThere put e made = cc
make_apart g site old new DiskFault put e made = cc
make_apart g site old new NoMemory put e made = cc
make_apart g site old new ending put e made = made
