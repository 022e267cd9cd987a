-- What a simulation leaves.
use Rattle.std.specs.Prelude.{◌≡◌, ℕ, Bool, true, false, List, [], Option, Some, Result, Ok, Err, length}
use Rattle.outside.specs.Disks.{Tells}
use Rattle.outside.specs.declared.disk.Disk as disk
use Rattle.deed_words.specs.declared.entry.Entry.{Entry}
use Rattle.gate_journal.specs.Grammar.{IsNone}
use Rattle.site_store.specs.Held.{Held}
use Rattle.site_store.specs.States.{settled}
use Rattle.site_store.specs.declared.load.StoreFault.{StoreFault}
use Rattle.site_store.specs.declared.load.StoreFault.TheVariants as store
use Rattle.site_sim.specs.declared.fault.SimFault.{SimFault}
use Rattle.site_sim.specs.declared.fault.SimFault.TheVariants.{JournalThere, Disk, Memory}
use Rattle.site_sim.specs.Example as example
use Rattle.site_sim.specs.Requests.{sends}
use Rattle.site_sim.specs.Results.{figures_of, line_of}
use Rattle.site_sim.specs.Sends.{Sent, Went}
use Rattle.site_sim.specs.Supplies.{moments, words}

-- No journal was there. The requests were sent to the store of a new one, from this clock and these words, each image of the
-- disk holds the whole history that came of them, and the line is that of it.
pub record SimulatedFrom {D : Type 0} (g : disk.Ghosts D) (clock words : Option (List ℕ)) (seed count : ℕ) (disk_old disk_new : D) (line : List ℕ) : Type 0 where
  pub history : List Entry
  pub done : List Sent
  pub all : Bool
  pub clock_left : Option (List ℕ)
  pub words_left : Option (List ℕ)
  pub none : Tells (g.content disk_old) IsNone
  pub went : Went (settled []) (sends count) clock clock_left words words_left all done (settled history)
  pub images : (c : List ℕ) → g.image disk_new c → Held example.site history c
  pub line_is : line ≡ line_of seed count (figures_of (length done) history)

-- .. from the simulation's own 100,000 moments and 1,000,000 words
abbrev pub Simulated : {D : Type 0} → disk.Ghosts D → ℕ → ℕ → D → D → List ℕ → Type 0
Simulated g seed count = SimulatedFrom g (Some (moments 100000)) (Some (words seed 1000000)) seed count

abbrev pub fault_of : StoreFault → SimFault
fault_of store.Disk = Disk
fault_of store.JournalThere = JournalThere
fault_of store.NoJournal = Memory
fault_of (store.Bad place) = Memory
fault_of store.Memory = Memory

-- a call of the disk failed
abbrev pub is_disk : {T : Type 0} → Result T SimFault → Bool
is_disk (Ok value) = false
is_disk (Err Disk) = true
is_disk (Err JournalThere) = false
is_disk (Err Memory) = false

-- a journal was there
abbrev pub is_there : {T : Type 0} → Result T SimFault → Bool
is_there (Ok value) = false
is_there (Err JournalThere) = true
is_there (Err Disk) = false
is_there (Err Memory) = false
