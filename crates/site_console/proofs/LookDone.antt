-- A look at a loadable journal, where nothing fails.
use Rattle.std.proofs.Common.{◌≡◌, ◌⊎◌, ◌≤◌, ℕ, true, List, Option, None, Some, inl, inr, refl, sym, subst, ◌∙◌, ap}
use Rattle.std.specs.Prelude.{IsSomeAnd}
use Rattle.outside.specs.Causes.{Rose, HasCauseIf}
use Rattle.outside.specs.declared.disk.Disk as disk
use Rattle.outside.specs.declared.devices.Words as words
use Rattle.outside.specs.declared.clock.Clock as clock
use Rattle.command_words.specs.declared.command.Command.{Command}
use Rattle.command_words.specs.declared.command.Command.TheVariants.{Init, Run, Report, Export, Check, Log, Simulate, Serve}
use Rattle.site_store.specs.declared.store.Devices.{Devices}
use Rattle.site_console.specs.declared.ending.Ending.{Ending}
use Rattle.site_console.specs.declared.ending.Ending.TheVariants.{Done, BadWords, Unreadable, JournalThere, NoJournal, JournalBad, ReadFault, WriteFault, DiskFault, UnknownBatch, NoMemory, DoorFault, TooLong}
use Rattle.site_console.specs.declared.look.Look.{Look}
use Rattle.site_console.specs.declared.look.Look.TheVariants as look
use Rattle.site_console.specs.Endings.{status_of, is_write_ending}
use Rattle.site_console.specs.Looks.{IsTold, look_text, Looked, LookSession}
use Rattle.site_console.specs.Sessions.{NotLoaded}
use Rattle.site_console.specs.Told.{Stream}
use Rattle.site_console.specs.Top.{is_look, IsLoadable, IsLooked, NoneFailed, Obeys}
use Rattle.site_console.proofs.Completing.{OneReading, later_rose, not_loaded}

told_done : (text : Option (List ℕ)) (ending : Ending) (put : List ℕ) (before now : ℕ) → IsTold text ending put → HasCauseIf (is_write_ending ending) before now → ¬ (Rose before now) → IsLooked (status_of ending)
told_done (Some text) Done put before now told write sound = inr (inl refl)
told_done (Some text) BadWords put before now told write sound = absurd told
told_done (Some text) (Unreadable kind) put before now told write sound = absurd told
told_done (Some text) JournalThere put before now told write sound = absurd told
told_done (Some text) NoJournal put before now told write sound = absurd told
told_done (Some text) (JournalBad place) put before now told write sound = absurd told
told_done (Some text) ReadFault put before now told write sound = absurd told
told_done (Some text) WriteFault put before now told write sound = absurd (sound write.failed)
told_done (Some text) DiskFault put before now told write sound = absurd told
told_done (Some text) UnknownBatch put before now told write sound = absurd told
told_done (Some text) NoMemory put before now told write sound = inr (inr refl)
told_done (Some text) DoorFault put before now told write sound = absurd told
told_done (Some text) TooLong put before now told write sound = absurd told
told_done None Done put before now told write sound = absurd told
told_done None BadWords put before now told write sound = absurd told
told_done None (Unreadable kind) put before now told write sound = absurd told
told_done None JournalThere put before now told write sound = absurd told
told_done None NoJournal put before now told write sound = absurd told
told_done None (JournalBad place) put before now told write sound = absurd told
told_done None ReadFault put before now told write sound = absurd told
told_done None WriteFault put before now told write sound = absurd told
told_done None DiskFault put before now told write sound = absurd told
told_done None UnknownBatch put before now told write sound = inl refl
told_done None NoMemory put before now told write sound = absurd told
told_done None DoorFault put before now told write sound = absurd told
told_done None TooLong put before now told write sound = absurd told

module _ {D C W : Type 0} (g : disk.Ghosts D) (k : clock.Ghosts C) (w : words.Ghosts W) (one : OneReading) where
  look_comes : (asked : Look) (old new : Devices D C W) (i c d : Stream) (ending : Ending) → NotLoaded g old new i i c d ending ⊎ Looked g asked old new c d ending → HasCauseIf (is_write_ending ending) c.faults d.faults → ¬ (Rose (g.disk_faults old.disk) (g.disk_faults new.disk)) → ¬ (Rose c.faults d.faults)
      → IsSomeAnd (g.content old.disk) IsLoadable → IsLooked (status_of ending)
  look_comes asked old new i c d ending (inl s) write disk sink loadable = inr (not_loaded g k w one old new i i c d ending disk loadable s)
  look_comes asked old new i c d ending (inr s) write disk sink loadable = told_done (look_text s.site s.history asked) ending s.told.0 c.faults d.faults s.told.2 write sink

  look_done : (asked : Look) (old new : Devices D C W) (i c mid d : Stream) (ending : Ending) (n : ℕ) → n ≡ status_of ending → LookSession g asked old new i c mid ending → mid.faults ≤ d.faults → ¬ (Rose (g.disk_faults old.disk) (g.disk_faults new.disk)) → ¬ (Rose c.faults d.faults)
      → IsSomeAnd (g.content old.disk) IsLoadable → IsLooked n
  look_done asked old new i c mid d ending n is s later disk sink loadable =
      subst IsLooked (sym is) (look_comes asked old new i c mid ending s.comes s.write disk (λ rose. sink (later_rose c.faults mid.faults d.faults rose later)) loadable)

  pub obeyed_look : (command : Option Command) (old new : Devices D C W) (s s' i i' c mid d : Stream) (ending : Ending) (n : ℕ) → is_look command ≡ true → n ≡ status_of ending → Obeys g k w command old new s s' i i' c mid ending → mid.faults ≤ d.faults
      → NoneFailed (g.disk_faults old.disk) (g.disk_faults new.disk) i.faults i'.faults c.faults d.faults → IsSomeAnd (g.content old.disk) IsLoadable → IsLooked n
  obeyed_look None old new s s' i i' c mid d ending n asked is obeys later sound loadable = absurd cc
  obeyed_look (Some Init) old new s s' i i' c mid d ending n asked is obeys later sound loadable = absurd cc
  obeyed_look (Some Run) old new s s' i i' c mid d ending n asked is obeys later sound loadable = absurd cc
  obeyed_look (Some (Simulate seed count)) old new s s' i i' c mid d ending n asked is obeys later sound loadable = absurd cc
  obeyed_look (Some (Serve words)) old new s s' i i' c mid d ending n asked is obeys later sound loadable = absurd cc
  obeyed_look (Some (Report batch)) old new s s' i i' c mid d ending n asked is (inl wants) later sound loadable = inr (inr (is ∙ ap status_of wants.0))
  obeyed_look (Some (Report batch)) old new s s' i i' c mid d ending n asked is (inr session) later sound loadable = look_done (look.Report batch) old new i c mid d ending n is session.2 later sound.disk sound.sink loadable
  obeyed_look (Some (Export batch from count)) old new s s' i i' c mid d ending n asked is (inl wants) later sound loadable = inr (inr (is ∙ ap status_of wants.0))
  obeyed_look (Some (Export batch from count)) old new s s' i i' c mid d ending n asked is (inr session) later sound loadable = look_done (look.Export batch from count) old new i c mid d ending n is session.2 later sound.disk sound.sink loadable
  obeyed_look (Some Check) old new s s' i i' c mid d ending n asked is (inl wants) later sound loadable = inr (inr (is ∙ ap status_of wants.0))
  obeyed_look (Some Check) old new s s' i i' c mid d ending n asked is (inr session) later sound loadable = look_done look.Check old new i c mid d ending n is session.2 later sound.disk sound.sink loadable
  obeyed_look (Some (Log from count)) old new s s' i i' c mid d ending n asked is (inl wants) later sound loadable = inr (inr (is ∙ ap status_of wants.0))
  obeyed_look (Some (Log from count)) old new s s' i i' c mid d ending n asked is (inr session) later sound loadable = look_done (look.Log from count) old new i c mid d ending n is session.2 later sound.disk sound.sink loadable
