-- Reading a history back.
use Rattle.std.specs.Prelude.{◌≡◌, ℕ, Bool, true, false, List, ◌∷◌, ◌++◌}
use Rattle.deed_words.specs.Setups.{Setup}
use Rattle.deed_words.specs.declared.entry.Entry.{Entry}
use Rattle.deed_words.specs.History.{IsLawful}
use Rattle.gate_journal.specs.Readings.{bytes_of}
use Rattle.gate_journal.specs.declared.fault.JournalFault.{JournalFault}
use Rattle.gate_journal.specs.declared.fault.JournalFault.TheVariants as journal
use Rattle.gate_journal.specs.declared.payload.Payload.{Payload}
use Rattle.site_store.specs.declared.load.StoreFault.{StoreFault}
use Rattle.site_store.specs.declared.load.StoreFault.TheVariants as store
use Rattle.site_store.specs.Entries.{AreProper}
use Rattle.site_store.specs.Held.{AreGroups, Spoils}

-- a fault of the journal as one of the store
abbrev pub fault_of : JournalFault → StoreFault
fault_of journal.Disk = store.Disk
fault_of journal.AlreadyThere = store.JournalThere
fault_of journal.NoJournal = store.NoJournal
fault_of (journal.BadRecord place) = store.Bad place
fault_of (journal.Full end asked limit) = store.Memory
fault_of journal.Memory = store.Memory

abbrev pub is_disk : StoreFault → Bool
is_disk store.Disk = true
is_disk fault = false

-- the payloads are those of this history, which is lawful
pub record IsReplayed (site : Setup) (payloads : List (List ℕ)) (history : List Entry) : Type 0 where
  pub groups : AreGroups payloads history
  pub lawful : IsLawful site history
  pub proper : AreProper history

-- the first payloads are those of a lawful history, and the one at this place spoils it
pub record IsSpoiltAt (site : Setup) (payloads : List Payload) (place : ℕ) : Type 0 where
  pub before : List Payload
  pub payload : Payload
  pub after : List Payload
  pub history : List Entry
  pub payloads_are : payloads ≡ before ++ payload ∷ after
  pub replayed : IsReplayed site (bytes_of before) history
  pub spoils : Spoils site history payload.bytes
  pub place_is : payload.at ≡ place
