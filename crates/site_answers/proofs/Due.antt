-- What is due is said, or that memory is wanting.
use Rattle.std.proofs.Common.{◌≡◌, ℕ, List, Option, None, Some, sym, ap, ◌∙◌}
use Rattle.std.specs.Prelude.{option_map}
use Rattle.deed_words.specs.History.{world_of}
use Rattle.deed_words.specs.Names.{Text}
use Rattle.deed_words.specs.Setups.{Setup}
use Rattle.deed_words.specs.World.{batch_of}
use Rattle.deed_words.specs.declared.entry.Entry.{Entry}
use Rattle.deed_words.specs.declared.world.Batch.{Batch}
use Rattle.batch_report.specs.Views.{report_text}
use Rattle.site_answers.specs.Batches.{events_answer, or_no_batch, part_of_events, report_answer}
use Rattle.site_answers.specs.Saying.{fixed, in_json, in_text}
use Rattle.site_answers.specs.declared.fault_name.FaultName.TheVariants.{UnknownBatch}

-- ---- a report

pub reported : (site : Setup) (history : List Entry) (name text : Text) → report_text site history name ≡ Some text → report_answer site history name ≡ in_text text
reported site history name text is = ap (λ (o : Option Text). or_no_batch (option_map in_text o)) is

pub not_reported : (site : Setup) (history : List Entry) (name : Text) → report_text site history name ≡ None → report_answer site history name ≡ fixed UnknownBatch
not_reported site history name none = ap (λ (o : Option Text). or_no_batch (option_map in_text o)) none

-- ---- events

pub exported : (site : Setup) (history : List Entry) (name text : Text) (from count : ℕ) (batch : Batch) → batch_of (world_of site history) name ≡ Some batch → text ≡ part_of_events site history name from count → events_answer site history name from count ≡ in_json 200 text
exported site history name text from count batch there is =
    ap (λ (o : Option Batch). or_no_batch (option_map (λ (b : Batch). in_json 200 (part_of_events site history name from count)) o)) there ∙ ap (in_json 200) (sym is)

pub not_exported : (site : Setup) (history : List Entry) (name : Text) (from count : ℕ) → batch_of (world_of site history) name ≡ None → events_answer site history name from count ≡ fixed UnknownBatch
not_exported site history name from count none = ap (λ (o : Option Batch). or_no_batch (option_map (λ (b : Batch). in_json 200 (part_of_events site history name from count)) o)) none
