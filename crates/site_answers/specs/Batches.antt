-- What a batch is answered with: its report, and its events.
use Rattle.std.specs.Prelude.{◌+◌, ◌-◌, ℕ, List, take, drop, Option, Some, None, option_map}
use Rattle.deed_words.specs.History.{last_stamp, world_of}
use Rattle.deed_words.specs.Names.{Text}
use Rattle.deed_words.specs.Setups.{Setup}
use Rattle.deed_words.specs.World.{batch_of}
use Rattle.deed_words.specs.declared.entry.Entry.{Entry}
use Rattle.deed_words.specs.declared.world.Batch.{Batch}
use Rattle.batch_report.specs.Views.{report_text}
use Rattle.epcis_events.specs.Documents.{document_text}
use Rattle.epcis_events.specs.Events.{events_of}
use Rattle.epcis_events.specs.declared.event.Event.{Event}
use Rattle.site_answers.specs.Saying.{Answer, fixed, in_json, in_text}
use Rattle.site_answers.specs.declared.fault_name.FaultName.TheVariants.{UnknownBatch}

-- the text, or that there is no such batch
abbrev pub or_no_batch : Option Answer → Answer
or_no_batch None = fixed UnknownBatch
or_no_batch (Some answer) = answer

-- the report of the batch of that name
abbrev pub report_answer : Setup → List Entry → Text → Answer
report_answer site history name = or_no_batch (option_map in_text (report_text site history name))

-- the events with the numbers from the one on, so many, where the first has the number 1
abbrev pub events_numbered : ℕ → ℕ → List Event → List Event
events_numbered from count all = drop (from - 1) (take (from + count - 1) all)

-- the document of so many events of the batch of that name, which was made with the last stamp
unfoldable pub part_of_events : Setup → List Entry → Text → ℕ → ℕ → Text
part_of_events site history name from count = document_text (events_numbered from count (events_of site history name)) (last_stamp history)

abbrev pub events_answer : Setup → List Entry → Text → ℕ → ℕ → Answer
events_answer site history name from count =
    or_no_batch (option_map (λ (batch : Batch). in_json 200 (part_of_events site history name from count)) (batch_of (world_of site history) name))
