-- The server's status, and the line of its fault.
use Rattle.std.specs.Prelude.{◌≡◌, ◌⊎◌, ◌≤◌, ℕ, List}
use Rattle.outside.specs.Devices.{Puts}
use Rattle.outside.specs.Doors.{DoorState}
use Rattle.outside.specs.declared.disk.Disk as disk
use Rattle.outside.specs.declared.devices.Words as words
use Rattle.outside.specs.declared.clock.Clock as clock
use Rattle.site_store.specs.declared.store.Devices.{Devices}
use Rattle.site_store.specs.Readings.{Reading, Nothing, Bad, Kept}
use Rattle.site_console.specs.declared.ending.Ending.{Ending}
use Rattle.site_console.specs.Endings.{status_of, fault_line, Tells}
use Rattle.site_console.specs.Told.{Stream}
use Rattle.site_service.specs.Sites.{IsSiteServed}

-- what came of it, its status, and the line of its fault
pub record SiteServes {G D C W : Type 0} (state : G → DoorState) (g : disk.Ghosts D) (k : clock.Ghosts C) (w : words.Ghosts W) (before after : List G) (old new : Devices D C W) (out_old out_new : Stream) (status : ℕ) : Type 0 where
  pub ending : Ending
  pub served : IsSiteServed state g k w before after old new ending
  pub is : status ≡ status_of ending
  pub tells : Puts out_old.bytes out_new.bytes (Tells (fault_line ending) out_old.faults out_new.faults)
  pub later : out_old.faults ≤ out_new.faults

-- a fault of the disk in loading, or want of memory
abbrev pub StopsShort : ℕ → Type 0
StopsShort status = (status ≡ 9) ⊎ (status ≡ 11)

-- the status where the disk's content is read so
abbrev pub IsDue : Reading → ℕ → Type 0
IsDue Nothing status = (status ≡ 5) ⊎ StopsShort status
IsDue (Bad place) status = (status ≡ 6) ⊎ StopsShort status
IsDue (Kept site history) status = (status ≡ 0) ⊎ ((status ≡ 12) ⊎ StopsShort status)
