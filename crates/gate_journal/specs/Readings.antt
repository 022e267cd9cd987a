-- Reading a disk leaves it as it was.
use Rattle.std.specs.Prelude.{◌≡◌, ◌<◌, ◌+◌, ℕ, List, ◌++◌, length, drop, map, Option, Result, Ok, Err, Bool, true, false}
use Rattle.outside.specs.Disks.{LeavesOnly, NoMoreImages, Tells}
use Rattle.gate_journal.specs.Gates.{IsShut}
use Rattle.gate_journal.specs.Grammar.{block, header, front, records, IsShort, AreShort, IsBroken, Holds, placed}
use Rattle.gate_journal.specs.declared.fault.JournalFault.{JournalFault}
use Rattle.gate_journal.specs.declared.fault.JournalFault.TheVariants.{Disk}
use Rattle.gate_journal.specs.declared.loaded.Loaded.{Loaded}
use Rattle.gate_journal.specs.declared.payload.Payload.{Payload}

-- the content is the same, and there is no image that wasn't one before
pub record Untouched {D : Type 0} (content : D → Option (List ℕ)) (image : D → List ℕ → Type 0) (moment : D → ℕ) (since : D → ℕ → List ℕ → Type 0) (old new : D) : Type 0 where
  pub content_same : content new ≡ content old
  pub no_more : NoMoreImages (image old) (image new)
  pub any_moment : LeavesOnly moment since old new (image old)

-- nothing was changed up to some moment, and each image since then has P
pub record UntouchedUntil {D : Type 0} (content : D → Option (List ℕ)) (image : D → List ℕ → Type 0) (moment : D → ℕ) (since : D → ℕ → List ℕ → Type 0) (P : List ℕ → Type 0) (old new : D) : Type 0 where
  pub mid : D
  pub untouched : Untouched content image moment since old mid
  pub since_then : LeavesOnly moment since mid new P

-- whether it is a fault of the disk
abbrev pub is_fault_of_disk : JournalFault → Bool
is_fault_of_disk Disk = true
is_fault_of_disk _ = false

-- whether a fault of the disk was told
abbrev pub is_disk_fault : {T : Type 0} → Result T JournalFault → Bool
is_disk_fault (Ok _) = false
is_disk_fault (Err fault) = is_fault_of_disk fault

-- no length with so many bytes stands at the front
abbrev pub NoBlock : List ℕ → Type 0
NoBlock bytes = (payload after : List ℕ) → IsShort payload → bytes ≡ block payload ++ after → ⊥

-- the length and the bytes stand at the front
pub record BeginsWith (text bytes : List ℕ) : Type 0 where
  pub after : List ℕ
  pub whole : bytes ≡ text ++ after

-- the payloads, without where they lie in memory
abbrev pub bytes_of : List Payload → List (List ℕ)
bytes_of ps = map (λ p. p.bytes) ps

-- the payloads with the places of their gates
abbrev pub places_of : List Payload → List (ℕ × List ℕ)
places_of ps = map (λ p. (p.at, p.bytes)) ps

-- the bytes from start on are records of these payloads, and then, from at on, the rest has P
pub record Reads (start at : ℕ) (payloads : List (List ℕ)) (P : List ℕ → Type 0) (bytes : List ℕ) : Type 0 where
  pub whole : drop start bytes ≡ records payloads ++ drop at bytes
  pub rest : P (drop at bytes)

-- the records from start on, up to a closed gate at end
pub record FoundRecords (told : Option (List ℕ)) (start end size : ℕ) (ps : List Payload) : Type 0 where
  pub short : AreShort (bytes_of ps)
  pub end_is : end ≡ start + length (records (bytes_of ps))
  pub places : places_of ps ≡ placed start (bytes_of ps)
  pub within : end < size
  pub read : Tells told (Reads start end (bytes_of ps) IsShut)

-- the records from start on, and then bytes of no record at place
pub record BrokenAt (start place : ℕ) (bytes : List ℕ) : Type 0 where
  pub payloads : List (List ℕ)
  pub short : AreShort payloads
  pub place_is : place ≡ start + length (records payloads)
  pub read : Reads start place payloads IsBroken bytes

-- no name with a length and so many bytes stands at the front
abbrev pub NoHeader : List ℕ → Type 0
NoHeader bytes = (site after : List ℕ) → IsShort site → bytes ≡ header site ++ after → ⊥

-- what was loaded is what the content holds, and end is the place of the closed gate
pub record LoadedFrom (told : Option (List ℕ)) (loaded : Loaded) (end : ℕ) : Type 0 where
  pub site_fits : IsShort loaded.site
  pub payloads_fit : AreShort (bytes_of loaded.payloads)
  pub end_is : end ≡ length (front loaded.site (bytes_of loaded.payloads))
  pub places : places_of loaded.payloads ≡ placed (13 + length loaded.site) (bytes_of loaded.payloads)
  pub holds : Tells told (Holds loaded.site (bytes_of loaded.payloads))
