-- Where nothing fails, all is done, or memory is wanting.
use Rattle.std.proofs.Common.{◌≡◌, ◌⊎◌, ◌<◌, ◌≤◌, ◌++◌, ℕ, Bool, List, [], ◌∷◌, length, Option, None, Some, Result, Ok, Err, inl, inr, refl, sym, subst, ◌∙◌, ap, append-nil, arith}
use Rattle.std.specs.Prelude.{IsSomeAnd, cond}
use Rattle.std.specs.Io.KnownBytes.{Consumes, IsAtEnd}
use Rattle.std.proofs.lemmas.Bool.{lt-ltb}
use Rattle.std.proofs.lemmas.List.{length-append}
use Rattle.outside.specs.Causes.{Rose, HasCauseIf}
use Rattle.outside.specs.Disks.{Tells as OfContent}
use Rattle.outside.specs.declared.disk.Disk as disk
use Rattle.outside.specs.declared.devices.Words as words
use Rattle.outside.specs.declared.clock.Clock as clock
use Rattle.gate_journal.specs.Grammar.{IsNone, IsThere}
use Rattle.deed_words.specs.Setups.{Setup}
use Rattle.deed_words.specs.declared.entry.Entry.{Entry}
use Rattle.site_files.specs.declared.fault.FileFault.{FileFault}
use Rattle.site_files.specs.declared.fault.FileFault.TheVariants as file
use Rattle.site_files.specs.Sites.{setup_of}
use Rattle.command_words.specs.declared.command.Command.TheVariants.{Init, Run}
use Rattle.site_store.specs.declared.store.Devices.{Devices}
use Rattle.site_store.specs.Readings.{Reading, ReadsAs, Nothing, Bad, Kept}
use Rattle.site_store.specs.States.{settled}
use Rattle.site_console.specs.declared.ending.Ending.{Ending}
use Rattle.site_console.specs.declared.ending.Ending.TheVariants.{Done, BadWords, Unreadable, JournalThere, NoJournal, JournalBad, ReadFault, WriteFault, DiskFault, UnknownBatch, NoMemory, DoorFault, TooLong}
use Rattle.site_console.specs.declared.fault.Fault.{Fault}
use Rattle.site_console.specs.declared.fault.Fault.TheVariants.{Read, Write, Memory, InputTooLong}
use Rattle.site_console.specs.Endings.{status_of, ending_of, is_read_ending, is_write_ending, is_disk_ending}
use Rattle.site_console.specs.Files.{IsWhole, site_of}
use Rattle.site_console.specs.Inits.{InitSession, MakeEnds, Unread, Faulty, Opens}
use Rattle.site_console.specs.Limits.{input_limit, site_limit}
use Rattle.site_console.specs.Open.{counts_of}
use Rattle.site_console.specs.Script.{Ended}
use Rattle.site_console.specs.Sessions.{RunSession, NotLoaded, RanFrom}
use Rattle.site_console.specs.Told.{Stream}
use Rattle.site_console.specs.Top.{CanInit, CanRun, IsDone, IsLoadable, NoneFailed, Obeys}

-- bytes are read in one way
abbrev pub OneReading : Type 0
OneReading = (c : List ℕ) (a b : Reading) → ReadsAs a c → ReadsAs b c → a ≡ b

-- what is loadable is read as a history
loads : OneReading → (content : Option (List ℕ)) (reading : Reading) → OfContent content (ReadsAs reading) → IsSomeAnd content IsLoadable → (site : Setup) × (history : List Entry) × (reading ≡ Kept site history)
loads one None reading tells loadable = absurd loadable
loads one (Some c) reading tells loadable = (loadable.0, loadable.1, one c reading (Kept loadable.0 loadable.1) (tells c refl) loadable.2)

-- no more is taken than there was
taken_within : (old new : Option (List ℕ)) (taken : List ℕ) (limit : ℕ) → Consumes old new taken → IsSomeAnd old (λ all. length all < limit) → length taken < limit
taken_within None new taken limit from short = absurd short
taken_within (Some all) None taken limit from short = absurd from
taken_within (Some all) (Some left) taken limit from short = let lengths = ap length from ∙ length-append taken left in omega (arith, lengths, short)

-- a file that is too long says no setup
pub too_long : (all : List ℕ) → site_limit < length all → site_of all ≡ Err file.Unreadable
unfolding site_of
too_long all long = ap (λ (b : Bool). cond b (Err file.Unreadable) (setup_of all)) (lt-ltb site_limit (length all) long)

-- what was read of a file that says a setup says no fault
says_setup : (old new : Option (List ℕ)) (bytes : List ℕ) (fault : FileFault) → Consumes old new bytes → IsWhole new bytes → site_of bytes ≡ Err fault → IsSomeAnd old (λ all. (site : Setup) × (site_of all ≡ Ok site)) → ⊥
says_setup None new bytes fault from whole says can = can
says_setup (Some all) None bytes fault from whole says can = from
says_setup (Some all) (Some rest) bytes fault from (inl end) says can =
    let same : all ≡ bytes = from ∙ ap (λ (xs : List ℕ). bytes ++ xs) end ∙ append-nil bytes in
    let e : Ok can.0 ≡ Err fault = sym can.1 ∙ ap site_of same ∙ says in
    cc
says_setup (Some all) (Some rest) bytes fault from (inr long) says can =
    let lengths = ap length from ∙ length-append bytes rest in
    let e : Ok can.0 ≡ Err file.Unreadable = sym can.1 ∙ too_long all (omega (arith, lengths, long)) in
    cc

-- a journal isn't there where none is
not_there : (bytes : List ℕ) → IsNone bytes → IsThere bytes → ⊥
not_there [] none there = there
not_there (gate ∷ []) none there = there
not_there (gate ∷ byte ∷ rest) none there = none there

none_there : (content : Option (List ℕ)) → IsSomeAnd content IsNone → OfContent content IsThere → ⊥
none_there None none there = none
none_there (Some c) none there = not_there c none (there c refl)

pub later_rose : (before mid now : ℕ) → Rose before mid → mid ≤ now → Rose before now
later_rose before mid now rose later = omega arith

module _ {D C W : Type 0} (g : disk.Ghosts D) (k : clock.Ghosts C) (w : words.Ghosts W) (one : OneReading) where
  pub not_loaded : (old new : Devices D C W) (a b c d : Stream) (ending : Ending) → ¬ (Rose (g.disk_faults old.disk) (g.disk_faults new.disk)) → IsSomeAnd (g.content old.disk) IsLoadable → NotLoaded g old new a b c d ending → IsDone (status_of ending)
  not_loaded old new a b c d NoJournal sound loadable s = absurd (let l = loads one (g.content old.disk) Nothing s.refuses loadable in let e = l.2 in cc)
  not_loaded old new a b c d (JournalBad place) sound loadable s = absurd (let l = loads one (g.content old.disk) (Bad place) s.refuses loadable in let e = l.2 in cc)
  not_loaded old new a b c d DiskFault sound loadable s = absurd (sound s.cause.failed)
  not_loaded old new a b c d NoMemory sound loadable s = inr refl
  not_loaded old new a b c d Done sound loadable s = inl refl
  not_loaded old new a b c d BadWords sound loadable s = absurd s.refuses
  not_loaded old new a b c d (Unreadable kind) sound loadable s = absurd s.refuses
  not_loaded old new a b c d JournalThere sound loadable s = absurd s.refuses
  not_loaded old new a b c d ReadFault sound loadable s = absurd s.refuses
  not_loaded old new a b c d WriteFault sound loadable s = absurd s.refuses
  not_loaded old new a b c d UnknownBatch sound loadable s = absurd s.refuses
  not_loaded old new a b c d DoorFault sound loadable s = absurd s.refuses
  not_loaded old new a b c d TooLong sound loadable s = absurd s.refuses

  ran_result : (old new : Devices D C W) (a b c d : Stream) (ending : Ending) (s : RanFrom g k w old new a b c d ending) (result : Result (Unit {0}) Fault) → s.result ≡ result → ¬ (Rose a.faults b.faults) → ¬ (Rose c.faults d.faults) → IsSomeAnd a.bytes (λ all. length all < input_limit)
      → HasCauseIf (is_read_ending (ending_of result)) a.faults b.faults → HasCauseIf (is_write_ending (ending_of result)) c.faults d.faults → IsDone (status_of (ending_of result))
  ran_result old new a b c d ending s (Ok done) is reads writes short read write = inl refl
  ran_result old new a b c d ending s (Err Read) is reads writes short read write = absurd (reads read.failed)
  ran_result old new a b c d ending s (Err Write) is reads writes short read write = absurd (writes write.failed)
  ran_result old new a b c d ending s (Err Memory) is reads writes short read write = inr refl
  ran_result old new a b c d ending s (Err InputTooLong) is reads writes short read write =
      let e = subst (λ (r : Result (Unit {0}) Fault). Ended s.site (record { state = settled s.history; counts = counts_of g k w old.disk old.clock old.words }) r (IsAtEnd b.bytes) s.talk) is s.ran.ended in
      let within = taken_within a.bytes b.bytes s.talk.read input_limit s.ran.carries.read short in
      let full = e.1 in
      absurd (omega (arith, within, full))

  run_comes : (old new : Devices D C W) (a b c d : Stream) (ending : Ending) → NotLoaded g old new a b c d ending ⊎ RanFrom g k w old new a b c d ending → HasCauseIf (is_read_ending ending) a.faults b.faults → HasCauseIf (is_write_ending ending) c.faults d.faults
      → NoneFailed (g.disk_faults old.disk) (g.disk_faults new.disk) a.faults b.faults c.faults d.faults → CanRun (g.content old.disk) a.bytes → IsDone (status_of ending)
  run_comes old new a b c d ending (inl s) read write sound can = not_loaded old new a b c d ending sound.disk can.loadable s
  run_comes old new a b c d ending (inr s) read write sound can =
      let is = s.ending_is in
      subst (λ (e : Ending). IsDone (status_of e)) (sym is)
      (ran_result old new a b c d ending s s.result refl sound.source sound.sink can.short (subst (λ (e : Ending). HasCauseIf (is_read_ending e) a.faults b.faults) is read) (subst (λ (e : Ending). HasCauseIf (is_write_ending e) c.faults d.faults) is write))

  run_done : (old new : Devices D C W) (a b c mid d : Stream) (ending : Ending) (n : ℕ) → n ≡ status_of ending → RunSession g k w old new a b c mid ending → mid.faults ≤ d.faults
      → NoneFailed (g.disk_faults old.disk) (g.disk_faults new.disk) a.faults b.faults c.faults d.faults → CanRun (g.content old.disk) a.bytes → IsDone n
  run_done old new a b c mid d ending n is s later sound can =
      subst IsDone (sym is)
      (run_comes old new a b c mid ending s.comes s.read s.write (record { disk = sound.disk; source = sound.source; sink = λ rose. sound.sink (later_rose c.faults mid.faults d.faults rose later) }) can)

  pub obeyed_run : (old new : Devices D C W) (s s' a b c mid d : Stream) (ending : Ending) (n : ℕ) → n ≡ status_of ending → Obeys g k w (Some Run) old new s s' a b c mid ending → mid.faults ≤ d.faults
      → NoneFailed (g.disk_faults old.disk) (g.disk_faults new.disk) a.faults b.faults c.faults d.faults → CanRun (g.content old.disk) a.bytes → IsDone n
  obeyed_run old new s s' a b c mid d ending n is (inl wants) later sound can = inr (is ∙ ap status_of wants.0)
  obeyed_run old new s s' a b c mid d ending n is (inr session) later sound can = run_done old new a b c mid d ending n is session.1 later sound can

  made : (site : Setup) (old new : Devices D C W) (c d : Stream) (ending : Ending) (put : List ℕ) → MakeEnds g site old.disk new.disk ending put → HasCauseIf (is_disk_ending ending) (g.disk_faults old.disk) (g.disk_faults new.disk) → HasCauseIf (is_write_ending ending) c.faults d.faults
      → ¬ (Rose (g.disk_faults old.disk) (g.disk_faults new.disk)) → ¬ (Rose c.faults d.faults) → IsSomeAnd (g.content old.disk) IsNone → IsDone (status_of ending)
  made site old new c d Done put is cause write sound writes none = inl refl
  made site old new c d NoMemory put is cause write sound writes none = inr refl
  made site old new c d WriteFault put is cause write sound writes none = absurd (writes write.failed)
  made site old new c d DiskFault put is cause write sound writes none = absurd (sound cause.failed)
  made site old new c d JournalThere put is cause write sound writes none = absurd (none_there (g.content old.disk) none is.0)
  made site old new c d BadWords put is cause write sound writes none = absurd is
  made site old new c d (Unreadable kind) put is cause write sound writes none = absurd is
  made site old new c d NoJournal put is cause write sound writes none = absurd is
  made site old new c d (JournalBad place) put is cause write sound writes none = absurd is
  made site old new c d ReadFault put is cause write sound writes none = absurd is
  made site old new c d UnknownBatch put is cause write sound writes none = absurd is
  made site old new c d DoorFault put is cause write sound writes none = absurd is
  made site old new c d TooLong put is cause write sound writes none = absurd is

  unread_done : (a b : Stream) (ending : Ending) → (ending ≡ ReadFault) ⊎ (ending ≡ NoMemory) → HasCauseIf (is_read_ending ending) a.faults b.faults → ¬ (Rose a.faults b.faults) → IsDone (status_of ending)
  unread_done a b ending (inl e) read reads = absurd (reads (subst (λ (x : Ending). HasCauseIf (is_read_ending x) a.faults b.faults) e read).failed)
  unread_done a b ending (inr e) read reads = inr (ap status_of e)

  init_comes : (old new : Devices D C W) (a b c d : Stream) (bytes : List ℕ) (ending : Ending) → Consumes a.bytes b.bytes bytes
      → Unread old new c d ending ⊎ (IsWhole b.bytes bytes × (Faulty bytes old new c d ending ⊎ Opens g bytes old new c d ending)) → HasCauseIf (is_read_ending ending) a.faults b.faults → HasCauseIf (is_write_ending ending) c.faults d.faults
      → NoneFailed (g.disk_faults old.disk) (g.disk_faults new.disk) a.faults b.faults c.faults d.faults → CanInit (g.content old.disk) a.bytes → IsDone (status_of ending)
  init_comes old new a b c d bytes ending from (inl s) read write sound can = unread_done a b ending s.why read sound.source
  init_comes old new a b c d bytes ending from (inr (whole, inl s)) read write sound can = absurd (says_setup a.bytes b.bytes bytes s.fault from whole s.says can.says)
  init_comes old new a b c d bytes ending from (inr (whole, inr s)) read write sound can = made s.site old new c d ending s.makes.put s.makes.ends s.makes.cause write sound.disk sound.sink can.none

  init_done : (old new : Devices D C W) (a b c mid d : Stream) (ending : Ending) (n : ℕ) → n ≡ status_of ending → InitSession g old new a b c mid ending → mid.faults ≤ d.faults
      → NoneFailed (g.disk_faults old.disk) (g.disk_faults new.disk) a.faults b.faults c.faults d.faults → CanInit (g.content old.disk) a.bytes → IsDone n
  init_done old new a b c mid d ending n is s later sound can =
      subst IsDone (sym is)
      (init_comes old new a b c mid s.bytes ending s.taken s.comes s.read s.write (record { disk = sound.disk; source = sound.source; sink = λ rose. sound.sink (later_rose c.faults mid.faults d.faults rose later) }) can)

  pub obeyed_init : (old new : Devices D C W) (a b i i' c mid d : Stream) (ending : Ending) (n : ℕ) → n ≡ status_of ending → Obeys g k w (Some Init) old new a b i i' c mid ending → mid.faults ≤ d.faults
      → NoneFailed (g.disk_faults old.disk) (g.disk_faults new.disk) a.faults b.faults c.faults d.faults → CanInit (g.content old.disk) a.bytes → IsDone n
  obeyed_init old new a b i i' c mid d ending n is (inl wants) later sound can = inr (is ∙ ap status_of wants.0)
  obeyed_init old new a b i i' c mid d ending n is (inr session) later sound can = init_done old new a b c mid d ending n is session.1 later sound can
