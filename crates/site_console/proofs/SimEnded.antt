-- The words of a simulation are never refused, and it has no door.
use Rattle.std.proofs.Common.{◌≡◌, ℕ, true, List}
use Rattle.outside.specs.declared.disk.Disk as disk
use Rattle.site_store.specs.declared.store.Devices.{Devices}
use Rattle.site_console.specs.declared.ending.Ending.{Ending}
use Rattle.site_console.specs.declared.ending.Ending.TheVariants.{Done, JournalThere, WriteFault, DiskFault, NoMemory}
use Rattle.site_console.specs.Sims.{SimEnds, SimSession}
use Rattle.site_console.specs.Told.{Stream}
use Rattle.site_console.proofs.Ends.{is_apart}

sim_ends : {D : Type 0} (g : disk.Ghosts D) (seed count : ℕ) (old new : D) (ending : Ending) (put : List ℕ) → is_apart ending ≡ true → SimEnds g seed count old new ending put → ⊥
sim_ends g seed count old new Done put e ends = cc
sim_ends g seed count old new WriteFault put e ends = cc
sim_ends g seed count old new JournalThere put e ends = cc
sim_ends g seed count old new DiskFault put e ends = cc
sim_ends g seed count old new NoMemory put e ends = cc
sim_ends g seed count old new ending put e ends = ends

pub sim_apart : {D C W : Type 0} (g : disk.Ghosts D) (seed count : ℕ) (old new : Devices D C W) (c d : Stream) (ending : Ending) → is_apart ending ≡ true → SimSession g seed count old new c d ending → ⊥
sim_apart g seed count old new c d ending e s = sim_ends g seed count old.disk new.disk ending s.ends.0 e s.ends.2
