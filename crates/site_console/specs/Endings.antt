-- How the program ends, and what it prints of a fault.
use Rattle.std.specs.Prelude.{◌≡◌, ◌⊎◌, ℕ, Bool, true, false, List, [], ◌∷◌, ◌++◌, codes, decimal, Result, Ok, Err}
use Rattle.outside.specs.Causes.{Rose}
use Rattle.site_store.specs.declared.load.StoreFault.{StoreFault}
use Rattle.site_store.specs.declared.load.StoreFault.TheVariants as store
use Rattle.site_sim.specs.declared.fault.SimFault.{SimFault}
use Rattle.site_sim.specs.declared.fault.SimFault.TheVariants as sim
use Rattle.site_console.specs.Newline.{newline}
use Rattle.site_console.specs.declared.fault.Fault.{Fault}
use Rattle.site_console.specs.declared.fault.Fault.TheVariants as run
use Rattle.site_console.specs.declared.ending.Ending.{Ending}
use Rattle.site_console.specs.declared.ending.Ending.TheVariants.{Done, BadWords, Unreadable, JournalThere, NoJournal, JournalBad, ReadFault, WriteFault, DiskFault, UnknownBatch, NoMemory, DoorFault, TooLong}

abbrev pub status_of : Ending → ℕ
status_of Done = 0
status_of BadWords = 2
status_of (Unreadable kind) = 3
status_of JournalThere = 4
status_of NoJournal = 5
status_of (JournalBad place) = 6
status_of ReadFault = 7
status_of WriteFault = 8
status_of DiskFault = 9
status_of UnknownBatch = 10
status_of NoMemory = 11
status_of DoorFault = 12
status_of TooLong = 13

-- what is printed of a fault
abbrev pub fault_line : Ending → List ℕ
fault_line Done = []
fault_line WriteFault = []
fault_line BadWords = codes "bad words" ++ newline ∷ []
fault_line (Unreadable kind) = codes "site unreadable: " ++ decimal kind ++ newline ∷ []
fault_line JournalThere = codes "journal there" ++ newline ∷ []
fault_line NoJournal = codes "no journal" ++ newline ∷ []
fault_line (JournalBad place) = codes "journal bad at " ++ decimal place ++ newline ∷ []
fault_line ReadFault = codes "input fault" ++ newline ∷ []
fault_line DiskFault = codes "disk fault" ++ newline ∷ []
fault_line UnknownBatch = codes "unknown batch" ++ newline ∷ []
fault_line NoMemory = codes "want of memory" ++ newline ∷ []
fault_line DoorFault = codes "door fault" ++ newline ∷ []
fault_line TooLong = codes "input too long" ++ newline ∷ []

-- the front of a line was put, and all of it where the sink didn't fail
pub record Tells (line : List ℕ) (faults_old faults_new : ℕ) (put : List ℕ) : Type 0 where
  pub more : List ℕ
  pub front : put ++ more ≡ line
  pub all : (more ≡ []) ⊎ Rose faults_old faults_new

-- how a run ends
abbrev pub ending_of : {T : Type 0} → Result T Fault → Ending
ending_of (Ok done) = Done
ending_of (Err run.Read) = ReadFault
ending_of (Err run.Write) = WriteFault
ending_of (Err run.Memory) = NoMemory
ending_of (Err run.InputTooLong) = TooLong

-- how a command ends whose journal couldn't be made or loaded
abbrev pub ending_of_store : StoreFault → Ending
ending_of_store store.Disk = DiskFault
ending_of_store store.JournalThere = JournalThere
ending_of_store store.NoJournal = NoJournal
ending_of_store (store.Bad place) = JournalBad place
ending_of_store store.Memory = NoMemory

-- how a simulation ends that has no line
abbrev pub ending_of_sim : SimFault → Ending
ending_of_sim sim.JournalThere = JournalThere
ending_of_sim sim.Disk = DiskFault
ending_of_sim sim.Memory = NoMemory

abbrev pub is_read_ending : Ending → Bool
is_read_ending ReadFault = true
is_read_ending ending = false

abbrev pub is_write_ending : Ending → Bool
is_write_ending WriteFault = true
is_write_ending ending = false

abbrev pub is_disk_ending : Ending → Bool
is_disk_ending DiskFault = true
is_disk_ending ending = false
