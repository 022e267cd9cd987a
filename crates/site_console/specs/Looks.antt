-- What the commands that read tell of a history, and what they leave as it was.
use Rattle.std.specs.Prelude.{◌≡◌, ◌⊎◌, ◌-◌, ℕ, List, [], ◌∷◌, ◌++◌, codes, decimal, length, take, drop, filter_map, Option, None, Some, option_map, Result, Ok, Err}
use Rattle.outside.specs.Causes.{HasCauseIf}
use Rattle.outside.specs.Devices.{Puts}
use Rattle.outside.specs.Disks.{Tells as OfContent}
use Rattle.outside.specs.declared.disk.Disk as disk
use Rattle.deed_words.specs.History.{last_stamp, world_of}
use Rattle.deed_words.specs.Names.{Text}
use Rattle.deed_words.specs.Setups.{Setup}
use Rattle.deed_words.specs.World.{batch_of}
use Rattle.deed_words.specs.declared.entry.Entry.{Entry}
use Rattle.deed_words.specs.declared.world.Batch.{Batch}
use Rattle.gate_journal.specs.Readings.{Untouched}
use Rattle.epcis_events.specs.Documents.{document_text}
use Rattle.epcis_events.specs.Events.{event_of, events, events_of}
use Rattle.epcis_events.specs.Replaying.{replay}
use Rattle.epcis_events.specs.declared.event.Event.{Event}
use Rattle.batch_report.specs.Views.{report_text}
use Rattle.site_core.specs.Seen.{moves_seen}
use Rattle.site_store.specs.declared.store.Devices.{Devices}
use Rattle.site_store.specs.Readings.{ReadsAs, Kept}
use Rattle.site_console.specs.declared.ending.Ending.{Ending}
use Rattle.site_console.specs.declared.ending.Ending.TheVariants.{Done, WriteFault, UnknownBatch, NoMemory}
use Rattle.site_console.specs.declared.fault.Fault.{Fault}
use Rattle.site_console.specs.declared.fault.Fault.TheVariants.{Read, Write, Memory, InputTooLong}
use Rattle.site_console.specs.declared.look.Look.{Look}
use Rattle.site_console.specs.declared.look.Look.TheVariants.{Report, Export, Check, Log}
use Rattle.site_console.specs.Endings.{is_write_ending}
use Rattle.site_console.specs.Logs.{log_text}
use Rattle.site_console.specs.Newline.{newline}
use Rattle.site_console.specs.Puts.{IsPart}
use Rattle.site_console.specs.Sessions.{NotLoaded}
use Rattle.site_console.specs.Told.{Stream}

-- ---- texts

-- the events, or those of the batch at that place
unfoldable pub events_seen : Setup → List Entry → Option ℕ → List Event
events_seen site history batch = filter_map (event_of site) (moves_seen site history batch)

-- the document of so many events of the batch, from the one with a number on; it is made with the last stamp
unfoldable pub exported : Setup → List Entry → Text → ℕ → ℕ → Text
exported site history name from count = document_text (take count (drop (from - 1) (events_of site history name))) (last_stamp history) ++ newline ∷ []

-- .. if there is such a batch
unfoldable pub export_text : Setup → List Entry → Text → ℕ → ℕ → Option Text
export_text site history name from count = option_map (λ (batch : Batch). exported site history name from count) (batch_of (world_of site history) name)

-- the line of a check, by its numbers
unfoldable pub check_line : ℕ → ℕ → ℕ → ℕ → Text
check_line entries events live pairs =
    codes "check: entries " ++ decimal entries ++ codes ", events " ++ decimal events ++ codes ", live " ++ decimal live ++ codes ", pairs " ++ decimal pairs ++ newline ∷ []

-- how many entries and events there are, and what the replay of all events comes to
unfoldable pub check_text : Setup → List Entry → Text
check_text site history =
    check_line (length history) (length (events site history)) (length (replay (events site history)).live) (length (replay (events site history)).pairs)

-- what a look tells of a history, or none where no batch has the name
abbrev pub look_text : Setup → List Entry → Look → Option Text
look_text site history (Report name) = report_text site history name
look_text site history (Export name from count) = export_text site history name from count
look_text site history Check = Some (check_text site history)
look_text site history (Log from count) = Some (log_text site history from count)

-- ---- how much of a text was put

-- the front of a text, or all of it
pub record IsFront (front all : List ℕ) : Type 0 where
  pub more : List ℕ
  pub whole : front ++ more ≡ all

-- all of it; not all, where the sink failed; or some front, where memory was wanting
abbrev pub IsSaid : {T : Type 0} → List ℕ → Result T Fault → List ℕ → Type 0
IsSaid text (Ok done) put = put ≡ text
IsSaid text (Err Write) put = IsPart put text
IsSaid text (Err Memory) put = IsFront put text
IsSaid text (Err Read) put = ⊥
IsSaid text (Err InputTooLong) put = ⊥

-- the same of an ending, which tells too where there is no text
abbrev pub IsTold : Option Text → Ending → List ℕ → Type 0
IsTold (Some text) Done put = put ≡ text
IsTold (Some text) WriteFault put = IsPart put text
IsTold (Some text) NoMemory put = IsFront put text
IsTold None UnknownBatch put = put ≡ []
IsTold text ending put = ⊥

-- ---- sessions

-- The journal was loaded, and of its history this was told. No call of the disk failed, and each device is as it was.
pub record Looked {D C W : Type 0} (g : disk.Ghosts D) (look : Look) (old new : Devices D C W) (out_old out_new : Stream) (ending : Ending) : Type 0 where
  pub site : Setup
  pub history : List Entry
  pub loaded : OfContent (g.content old.disk) (ReadsAs (Kept site history))
  pub told : Puts out_old.bytes out_new.bytes (λ put. IsTold (look_text site history look) ending put)
  pub disk : Untouched g.content g.image g.moment g.image_since old.disk new.disk
  pub faults : g.disk_faults new.disk ≡ g.disk_faults old.disk
  pub clock : new.clock ≡ old.clock
  pub words : new.words ≡ old.words

-- A look at a journal, which may not be loadable. The input is left as it was.
pub record LookSession {D C W : Type 0} (g : disk.Ghosts D) (look : Look) (old new : Devices D C W) (input out_old out_new : Stream) (ending : Ending) : Type 0 where
  pub comes : NotLoaded g old new input input out_old out_new ending ⊎ Looked g look old new out_old out_new ending
  pub write : HasCauseIf (is_write_ending ending) out_old.faults out_new.faults
