-- The program's whole session: a command, its ending and status, and the line of its fault.
use Rattle.std.specs.Prelude.{◌≡◌, ◌≤◌, ◌⊎◌, ℕ, ◌<◌, List, Option, Some, None, IsSomeAnd, length, Ok, Bool, true, false}
use Rattle.outside.specs.Devices.{Puts}
use Rattle.outside.specs.Causes.{Rose}
use Rattle.outside.specs.declared.disk.Disk as disk
use Rattle.outside.specs.declared.devices.Words as words
use Rattle.outside.specs.declared.clock.Clock as clock
use Rattle.deed_words.specs.Setups.{Setup}
use Rattle.deed_words.specs.declared.entry.Entry.{Entry}
use Rattle.gate_journal.specs.Grammar.{IsNone}
use Rattle.site_store.specs.declared.store.Devices.{Devices}
use Rattle.site_store.specs.Held.{Held}
use Rattle.command_words.specs.declared.command.Command.{Command}
use Rattle.command_words.specs.declared.command.Command.TheVariants.{Init, Run, Report, Export, Check, Log, Simulate, Serve}
use Rattle.site_console.specs.declared.ending.Ending.{Ending}
use Rattle.site_console.specs.declared.ending.Ending.TheVariants.{BadWords, NoMemory}
use Rattle.site_console.specs.Endings.{status_of, fault_line, Tells}
use Rattle.site_console.specs.Files.{site_of}
use Rattle.site_console.specs.Inits.{IsIdle, InitSession}
use Rattle.site_console.specs.Limits.{input_limit}
use Rattle.site_console.specs.Looks.{LookSession}
use Rattle.site_console.specs.declared.look.Look.TheVariants as look
use Rattle.site_console.specs.Sessions.{RunSession}
use Rattle.site_console.specs.Sims.{SimSession}
use Rattle.site_console.specs.Told.{Stream}

-- the statuses of the program
abbrev pub IsStatus : ℕ → Type 0
IsStatus n =
    (n ≡ 0) ⊎ ((n ≡ 2) ⊎ ((n ≡ 3) ⊎ ((n ≡ 4) ⊎ ((n ≡ 5) ⊎ ((n ≡ 6) ⊎ ((n ≡ 7) ⊎ ((n ≡ 8) ⊎ ((n ≡ 9) ⊎ ((n ≡ 10) ⊎ ((n ≡ 11) ⊎ (n ≡ 13)))))))))))

-- nothing was read, put or taken
pub record Spares {D C W : Type 0} (old new : Devices D C W) (site_old site_new input_old input_new out_old out_new : Stream) : Type 0 where
  pub idle : IsIdle old new out_old out_new
  pub site : site_new ≡ site_old
  pub input : input_new ≡ input_old

-- nothing was done, and the program ends so
abbrev pub Idles : {D C W : Type 0} → Devices D C W → Devices D C W → Stream → Stream → Stream → Stream → Stream → Stream → Ending → Ending → Type 0
Idles old new site_old site_new input_old input_new out_old out_new ending so =
    (ending ≡ so) × Spares old new site_old site_new input_old input_new out_old out_new

-- The session of the command that the words say. Nothing is done where they say none, or one that the program doesn't have.
abbrev pub Session : {D C W : Type 0} (g : disk.Ghosts D) (k : clock.Ghosts C) (w : words.Ghosts W) → Option Command → Devices D C W → Devices D C W → Stream → Stream → Stream → Stream → Stream → Stream → Ending → Type 0
Session g k w None old new site_old site_new input_old input_new out_old out_new ending =
    Idles old new site_old site_new input_old input_new out_old out_new ending BadWords
Session g k w (Some Init) old new site_old site_new input_old input_new out_old out_new ending =
    (input_new ≡ input_old) × InitSession g old new site_old site_new out_old out_new ending
Session g k w (Some Run) old new site_old site_new input_old input_new out_old out_new ending =
    (site_new ≡ site_old) × RunSession g k w old new input_old input_new out_old out_new ending
Session g k w (Some (Report batch)) old new site_old site_new input_old input_new out_old out_new ending =
    (site_new ≡ site_old) × (input_new ≡ input_old) × LookSession g (look.Report batch) old new input_old out_old out_new ending
Session g k w (Some (Export batch from count)) old new site_old site_new input_old input_new out_old out_new ending =
    (site_new ≡ site_old) × (input_new ≡ input_old) × LookSession g (look.Export batch from count) old new input_old out_old out_new ending
Session g k w (Some Check) old new site_old site_new input_old input_new out_old out_new ending =
    (site_new ≡ site_old) × (input_new ≡ input_old) × LookSession g look.Check old new input_old out_old out_new ending
Session g k w (Some (Log from count)) old new site_old site_new input_old input_new out_old out_new ending =
    (site_new ≡ site_old) × (input_new ≡ input_old) × LookSession g (look.Log from count) old new input_old out_old out_new ending
Session g k w (Some (Simulate seed count)) old new site_old site_new input_old input_new out_old out_new ending =
    (site_new ≡ site_old) × (input_new ≡ input_old) × SimSession g seed count old new out_old out_new ending
Session g k w (Some (Serve words)) old new site_old site_new input_old input_new out_old out_new ending =
    Idles old new site_old site_new input_old input_new out_old out_new ending BadWords

-- the command's session; or memory was wanting for its words, and nothing was done
abbrev pub Obeys : {D C W : Type 0} (g : disk.Ghosts D) (k : clock.Ghosts C) (w : words.Ghosts W) → Option Command → Devices D C W → Devices D C W → Stream → Stream → Stream → Stream → Stream → Stream → Ending → Type 0
Obeys g k w command old new site_old site_new input_old input_new out_old out_new ending =
    Idles old new site_old site_new input_old input_new out_old out_new ending NoMemory
    ⊎ Session g k w command old new site_old site_new input_old input_new out_old out_new ending

-- The session up to `mid` of the output, its status, and the line of its fault behind what it put.
pub record Top {D C W : Type 0} (g : disk.Ghosts D) (k : clock.Ghosts C) (w : words.Ghosts W) (command : Option Command) (old new : Devices D C W) (site_old site_new input_old input_new out_old out_new : Stream) (status : ℕ) : Type 0 where
  pub ending : Ending
  pub mid : Stream
  pub session : Obeys g k w command old new site_old site_new input_old input_new out_old mid ending
  pub is : status ≡ status_of ending
  pub tells : Puts mid.bytes out_new.bytes (Tells (fault_line ending) mid.faults out_new.faults)
  pub later : mid.faults ≤ out_new.faults

-- ---- where nothing fails

-- neither the disk nor the source or the sink failed
pub record NoneFailed (disk_old disk_new source_old source_new sink_old sink_new : ℕ) : Type 0 where
  pub disk : ¬ (Rose disk_old disk_new)
  pub source : ¬ (Rose source_old source_new)
  pub sink : ¬ (Rose sink_old sink_new)

-- the bytes hold a setup with a history
abbrev pub IsLoadable : List ℕ → Type 0
IsLoadable bytes = (site : Setup) × (history : List Entry) × Held site history bytes

-- a run whose journal is loadable, and whose input is shorter than the limit
pub record CanRun (content left : Option (List ℕ)) : Type 0 where
  pub loadable : IsSomeAnd content IsLoadable
  pub short : IsSomeAnd left (λ all. length all < input_limit)

-- a site file that says a setup, and a disk without a journal
pub record CanInit (content left : Option (List ℕ)) : Type 0 where
  pub none : IsSomeAnd content IsNone
  pub says : IsSomeAnd left (λ all. (site : Setup) × (site_of all ≡ Ok site))

-- a command that reads
abbrev pub is_look : Option Command → Bool
is_look (Some (Report batch)) = true
is_look (Some (Export batch from count)) = true
is_look (Some Check) = true
is_look (Some (Log from count)) = true
is_look command = false

-- all was done, or memory was wanting
abbrev pub IsDone : ℕ → Type 0
IsDone status = (status ≡ 0) ⊎ (status ≡ 11)

-- .. or the site has no such batch
abbrev pub IsLooked : ℕ → Type 0
IsLooked status = (status ≡ 10) ⊎ IsDone status
