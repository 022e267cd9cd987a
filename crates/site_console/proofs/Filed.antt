-- A site file that was read.
use Rattle.std.proofs.Common.{◌≡◌, ◌⊎◌, ℕ, true, false, List, Option, Result, Ok, Err, inl, inr, refl, subst}
use Rattle.std.specs.Io.KnownBytes.{Consumes}
use Rattle.outside.specs.Causes.{HasCauseIf}
use Rattle.outside.specs.declared.disk.Disk as disk
use Rattle.deed_words.specs.Setups.{Setup}
use Rattle.site_store.specs.declared.store.Devices.{Devices}
use Rattle.site_console.specs.declared.ending.Ending.{Ending}
use Rattle.site_console.specs.declared.site_file.SiteFault.{SiteFault}
use Rattle.site_console.specs.declared.site_file.SiteFault.TheVariants.{Unreadable, Source, Memory}
use Rattle.site_console.specs.Endings.{is_read_ending, is_write_ending}
use Rattle.site_console.specs.Files.{IsWhole, ReadsSetup, SaysSetup, ending_of_file, is_source_fault}
use Rattle.site_console.specs.Inits.{IsIdle, InitSession, Makes}
use Rattle.site_console.specs.Told.{Stream}
use Rattle.site_console.proofs.Causing.{no_cause}
use Rattle.site_console.proofs.Ends.{makes_no_read, file_read, file_write}

abbrev stream : Option (List ℕ) → ℕ → Stream
stream bytes faults = record { bytes = bytes; faults = faults }

-- it says a setup, and then the journal was made or not
pub opened : {D C W : Type 0} (g : disk.Ghosts D) (old new : Devices D C W) (site_old site_new out_old out_new : Stream) (bytes : List ℕ) (setup : Setup) (ending : Ending) → Consumes site_old.bytes site_new.bytes bytes
    → ReadsSetup site_new.bytes bytes (Ok setup) → HasCauseIf (is_source_fault {T = Setup} (Ok setup)) site_old.faults site_new.faults → Makes g setup old new out_old.bytes out_new.bytes ending → HasCauseIf (is_write_ending ending) out_old.faults out_new.faults
    → InitSession g old new site_old site_new out_old out_new ending
opened g old new site_old site_new out_old out_new bytes setup ending from reads cause makes write = record {
  bytes = bytes;
  taken = from;
  comes = inr (reads.0, inr (record { site = setup; says = reads.1; makes = makes }));
  read = no_cause (is_read_ending ending) site_old.faults site_new.faults (makes_no_read g setup old.disk new.disk ending makes.put makes.ends) cause.kept;
  write = write;
}

idle : {D C W : Type 0} (old : Devices D C W) (out : Stream) → IsIdle old old out out
idle old out = record { devices = refl; out = refl }

-- it says none
pub unopened : {D C W : Type 0} (g : disk.Ghosts D) (old : Devices D C W) (site_old site_new out : Stream) (bytes : List ℕ) (fault : SiteFault) → Consumes site_old.bytes site_new.bytes bytes
    → ReadsSetup site_new.bytes bytes (Err fault) → HasCauseIf (is_source_fault {T = Setup} (Err fault)) site_old.faults site_new.faults → InitSession g old old site_old site_new out out (ending_of_file fault)
unopened g old site_old site_new out bytes (Unreadable kind) from reads cause = record {
  bytes = bytes;
  taken = from;
  comes = inr (reads.0, inl (record { fault = reads.1.0; ending_is = let e = reads.1.2 in cc; says = reads.1.1; idle = idle old out }));
  read = file_read (Unreadable kind) site_old.faults site_new.faults cause;
  write = file_write (Unreadable kind) out.faults;
}
unopened g old site_old site_new out bytes Source from reads cause = record {
  bytes = bytes;
  taken = from;
  comes = inl (record { why = inl refl; idle = idle old out });
  read = file_read Source site_old.faults site_new.faults cause;
  write = file_write Source out.faults;
}
unopened g old site_old site_new out bytes Memory from reads cause = record {
  bytes = bytes;
  taken = from;
  comes = inl (record { why = inr refl; idle = idle old out });
  read = file_read Memory site_old.faults site_new.faults cause;
  write = file_write Memory out.faults;
}

-- what the bytes say, where they are whole
pub said_whole : (left : Option (List ℕ)) (bytes : List ℕ) (result : Result Setup SiteFault) → IsWhole left bytes → SaysSetup bytes result → ReadsSetup left bytes result
said_whole left bytes (Ok setup) whole says = (whole, says)
said_whole left bytes (Err (Unreadable kind)) whole says = (whole, says)
said_whole left bytes (Err Memory) whole says = tt
said_whole left bytes (Err Source) whole says = tt

-- .. tell no fault of the source
pub says_no_fault : (bytes : List ℕ) (result : Result Setup SiteFault) → SaysSetup bytes result → is_source_fault result ≡ false
says_no_fault bytes (Ok setup) says = refl
says_no_fault bytes (Err (Unreadable kind)) says = refl
says_no_fault bytes (Err Memory) says = refl
says_no_fault bytes (Err Source) says = absurd says

-- what wasn't read whole says nothing
pub reads_none : (left : Option (List ℕ)) (bytes : List ℕ) (fault : SiteFault) → (fault ≡ Source) ⊎ (fault ≡ Memory) → ReadsSetup left bytes (Err fault)
reads_none left bytes Source why = tt
reads_none left bytes Memory why = tt
reads_none left bytes (Unreadable kind) (inl e) = absurd cc
reads_none left bytes (Unreadable kind) (inr e) = absurd cc

-- a fault keeps its cause, where the count stood still before it
pub source_carried : (T U : Type 0) (fault : SiteFault) (first before now : ℕ) → before ≡ first → HasCauseIf (is_source_fault {T = T} (Err fault)) before now → HasCauseIf (is_source_fault {T = U} (Err fault)) first now
source_carried T U (Unreadable kind) first before now e cause = subst (λ (n : ℕ). HasCauseIf false n now) e cause
source_carried T U Source first before now e cause = subst (λ (n : ℕ). HasCauseIf true n now) e cause
source_carried T U Memory first before now e cause = subst (λ (n : ℕ). HasCauseIf false n now) e cause
