-- A simulation in a new journal.
use Rattle.std.specs.Prelude.{◌≡◌, ℕ, List, []}
use Rattle.outside.specs.Causes.{HasCauseIf}
use Rattle.outside.specs.Devices.{Puts}
use Rattle.outside.specs.Disks.{Tells as OfContent}
use Rattle.outside.specs.declared.disk.Disk as disk
use Rattle.gate_journal.specs.Grammar.{IsThere}
use Rattle.gate_journal.specs.Readings.{Untouched}
use Rattle.site_sim.specs.Simulated.{Simulated}
use Rattle.site_store.specs.declared.store.Devices.{Devices}
use Rattle.site_console.specs.declared.ending.Ending.{Ending}
use Rattle.site_console.specs.declared.ending.Ending.TheVariants.{Done, JournalThere, WriteFault, DiskFault, NoMemory}
use Rattle.site_console.specs.Endings.{is_write_ending, is_disk_ending}
use Rattle.site_console.specs.Puts.{IsPart}
use Rattle.site_console.specs.Told.{Stream}

-- what came of it, and what was put
abbrev pub SimEnds : {D : Type 0} (g : disk.Ghosts D) → ℕ → ℕ → D → D → Ending → List ℕ → Type 0
SimEnds g seed count disk_old disk_new Done put = Simulated g seed count disk_old disk_new put
SimEnds g seed count disk_old disk_new WriteFault put = (line : List ℕ) × Simulated g seed count disk_old disk_new line × IsPart put line
SimEnds g seed count disk_old disk_new JournalThere put =
    OfContent (g.content disk_old) IsThere × Untouched g.content g.image g.moment g.image_since disk_old disk_new × (put ≡ [])
SimEnds g seed count disk_old disk_new DiskFault put = put ≡ []
SimEnds g seed count disk_old disk_new NoMemory put = put ≡ []
SimEnds g seed count disk_old disk_new ending put = ⊥

-- The simulation on the disk, and what was put of its line. Clock and random words aren't used.
pub record SimSession {D C W : Type 0} (g : disk.Ghosts D) (seed count : ℕ) (old new : Devices D C W) (out_old out_new : Stream) (ending : Ending) : Type 0 where
  pub ends : Puts out_old.bytes out_new.bytes (SimEnds g seed count old.disk new.disk ending)
  pub cause : HasCauseIf (is_disk_ending ending) (g.disk_faults old.disk) (g.disk_faults new.disk)
  pub write : HasCauseIf (is_write_ending ending) out_old.faults out_new.faults
  pub clock : new.clock ≡ old.clock
  pub words : new.words ≡ old.words
