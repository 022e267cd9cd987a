-- The making of a journal from a site file.
use Rattle.std.specs.Prelude.{◌≡◌, ◌⊎◌, ◌++◌, ℕ, List, [], ◌∷◌, codes, Option, Ok, Err}
use Rattle.std.specs.Io.KnownBytes.{Appends, Consumes}
use Rattle.outside.specs.Causes.{HasCauseIf}
use Rattle.outside.specs.Disks.{Tells as OfContent}
use Rattle.outside.specs.declared.disk.Disk as disk
use Rattle.deed_words.specs.Setups.{Setup}
use Rattle.gate_journal.specs.Grammar.{IsNone, IsThere}
use Rattle.gate_journal.specs.Readings.{Untouched, UntouchedUntil}
use Rattle.site_files.specs.declared.fault.FileFault.{FileFault}
use Rattle.site_store.specs.declared.store.Devices.{Devices}
use Rattle.site_store.specs.Held.{Held, IsFreshFor}
use Rattle.site_console.specs.declared.ending.Ending.{Ending}
use Rattle.site_console.specs.declared.ending.Ending.TheVariants.{Done, Unreadable, JournalThere, ReadFault, WriteFault, DiskFault, NoMemory}
use Rattle.site_console.specs.Endings.{is_read_ending, is_write_ending, is_disk_ending}
use Rattle.site_console.specs.Files.{IsWhole, number_of, site_of}
use Rattle.site_console.specs.Newline.{newline}
use Rattle.site_console.specs.Puts.{IsPart}
use Rattle.site_console.specs.Told.{Stream}

abbrev pub ready : List ℕ
ready = codes "ready" ++ newline ∷ []

-- all of a text was put, or not all
abbrev pub IsTextPut : List ℕ → Ending → List ℕ → Type 0
IsTextPut text Done put = put ≡ text
IsTextPut text WriteFault put = IsPart put text
IsTextPut text ending put = ⊥

abbrev pub IsReadyPut : Ending → List ℕ → Type 0
IsReadyPut = IsTextPut ready

-- the journal of the setup, without entries, is on the disk
pub record IsMade {D : Type 0} (g : disk.Ghosts D) (site : Setup) (disk_old disk_new : D) : Type 0 where
  pub none : OfContent (g.content disk_old) IsNone
  pub images : (c : List ℕ) → g.image disk_new c → Held site [] c

-- what came of making it, and what was put
abbrev pub MakeEnds : {D : Type 0} (g : disk.Ghosts D) → Setup → D → D → Ending → List ℕ → Type 0
MakeEnds g site disk_old disk_new Done put = IsMade g site disk_old disk_new × (put ≡ ready)
MakeEnds g site disk_old disk_new WriteFault put = IsMade g site disk_old disk_new × IsPart put ready
MakeEnds g site disk_old disk_new JournalThere put = OfContent (g.content disk_old) IsThere × (put ≡ [])
MakeEnds g site disk_old disk_new DiskFault put = put ≡ []
MakeEnds g site disk_old disk_new NoMemory put = put ≡ []
MakeEnds g site disk_old disk_new ending put = ⊥

-- The journal was made, unless one is there. Until its first write the disk is untouched, and from then on each image is
-- no journal or this one.
pub record Makes {D C W : Type 0} (g : disk.Ghosts D) (site : Setup) (old new : Devices D C W) (held_old held_new : Option (List ℕ)) (ending : Ending) : Type 0 where
  pub put : List ℕ
  pub held : Appends held_old held_new put
  pub ends : MakeEnds g site old.disk new.disk ending put
  pub cause : HasCauseIf (is_disk_ending ending) (g.disk_faults old.disk) (g.disk_faults new.disk)
  pub disk : Untouched g.content g.image g.moment g.image_since old.disk new.disk
      ⊎ UntouchedUntil g.content g.image g.moment g.image_since (IsFreshFor site) old.disk new.disk
  pub clock : new.clock ≡ old.clock
  pub words : new.words ≡ old.words

-- no device of the store was touched, and nothing was put
pub record IsIdle {D C W : Type 0} (old new : Devices D C W) (out_old out_new : Stream) : Type 0 where
  pub devices : new ≡ old
  pub out : out_new ≡ out_old

-- the file couldn't be read, or memory was wanting
pub record Unread {D C W : Type 0} (old new : Devices D C W) (out_old out_new : Stream) (ending : Ending) : Type 0 where
  pub why : (ending ≡ ReadFault) ⊎ (ending ≡ NoMemory)
  pub idle : IsIdle old new out_old out_new

-- all of it was read, and it has a fault with this number
pub record Faulty {D C W : Type 0} (bytes : List ℕ) (old new : Devices D C W) (out_old out_new : Stream) (ending : Ending) : Type 0 where
  pub fault : FileFault
  pub ending_is : ending ≡ Unreadable (number_of fault)
  pub says : site_of bytes ≡ Err fault
  pub idle : IsIdle old new out_old out_new

-- all of it was read, it says a setup, and then the journal was made
pub record Opens {D C W : Type 0} (g : disk.Ghosts D) (bytes : List ℕ) (old new : Devices D C W) (out_old out_new : Stream) (ending : Ending) : Type 0 where
  pub site : Setup
  pub says : site_of bytes ≡ Ok site
  pub makes : Makes g site old new out_old.bytes out_new.bytes ending

-- The site file was read first, and each fault of a source or a sink has its cause.
pub record InitSession {D C W : Type 0} (g : disk.Ghosts D) (old new : Devices D C W) (site_old site_new out_old out_new : Stream) (ending : Ending) : Type 0 where
  pub bytes : List ℕ
  pub taken : Consumes site_old.bytes site_new.bytes bytes
  pub comes : Unread old new out_old out_new ending
      ⊎ (IsWhole site_new.bytes bytes × (Faulty bytes old new out_old out_new ending ⊎ Opens g bytes old new out_old out_new ending))
  pub read : HasCauseIf (is_read_ending ending) site_old.faults site_new.faults
  pub write : HasCauseIf (is_write_ending ending) out_old.faults out_new.faults
