-- A batch by its place and by its name.
use Rattle.std.proofs.Common.{◌≡◌, ◌<◌, ℕ, true, not, List, length, Some, None, Result, Ok, Err, [], sym, ap, ◌∙◌, refl}
use Rattle.std.specs.Prelude.{IfOk}
use Rattle.std.specs.List.{position, slice_get}
use Rattle.std.proofs.lemmas.Bool.{and_parts}
use Rattle.gs1_element.specs.Dates.{is_expiry}
use Rattle.deed_words.specs.Chain.{is_empty}
use Rattle.deed_words.specs.History.{world_of}
use Rattle.deed_words.specs.Names.{Text, same}
use Rattle.deed_words.specs.Proper.{is_order}
use Rattle.deed_words.specs.ProperWorlds.{IsProperBatch, IsProperWorld}
use Rattle.deed_words.specs.Setups.{Setup}
use Rattle.deed_words.specs.World.{World, batch_of}
use Rattle.deed_words.specs.declared.deed.OrderRow.{OrderRow}
use Rattle.deed_words.specs.declared.entry.Entry.{Entry}
use Rattle.deed_words.specs.declared.world.Batch.{Batch}
use Rattle.batch_book.specs.Batches.{is_called, name_in}
use Rattle.batch_book.specs.Content.{name_at}
use Rattle.batch_report.specs.declared.view.BatchView.{BatchView}
use Rattle.batch_report.specs.Views.{report_text, view_in, view_of}
use Rattle.site_stores.proofs.Finding.{nowhere, part_there, read_at, somewhere, within}
use Rattle.site_deeds.proofs.OfRows.{every_at}
use Rattle.site_deeds.proofs.Shared.{got, name_called}

-- the batch that is found by its name
pub batch_at : (w : World) (name : Text) (at : ℕ) (batch : Batch) → position (is_called name) w.batches ≡ Some at → slice_get w.batches at ≡ Some batch → batch_of w name ≡ Some batch
unfolding batch_of is_called
batch_at w name at batch found here = somewhere (λ (b : Batch). same b.order.batch name) w.batches at batch found here

pub no_batch_there : (w : World) (name : Text) → position (is_called name) w.batches ≡ None → batch_of w name ≡ None
unfolding batch_of is_called
no_batch_there w name none = nowhere (λ (b : Batch). same b.order.batch name) w.batches none

-- .. is kept there
pub batch_kept : (w : World) (name : Text) (at : ℕ) → position (is_called name) w.batches ≡ Some at → (batch : Batch) × (slice_get w.batches at ≡ Some batch) × (batch_of w name ≡ Some batch)
batch_kept w name at found =
    let kept = got w.batches at (within (is_called name) w.batches at found) in
    (kept.0, kept.1, batch_at w name at kept.0 found kept.1)

pub name_is : (batches : List Batch) (name : Text) (at : ℕ) → position (is_called name) batches ≡ Some at → name_at batches at ≡ name
name_is batches name at found =
    let kept = got batches at (within (is_called name) batches at found) in
    part_there name_in batches at kept.0 [] kept.1 ∙ name_called name batches at kept.0 found kept.1

expiry_in : (row : OrderRow) → is_order row ≡ true → is_expiry row.expiry ≡ true
unfolding is_order
expiry_in row e = (and_parts (not (is_empty row.batch)) (is_expiry row.expiry) (and_parts _ _ (and_parts _ _ (and_parts _ _ e).0).0).0).1

-- what is seen of a batch has a date
pub dated : (site : Setup) (history : List Entry) (at : ℕ) (view : BatchView) → IsProperWorld site (world_of site history) → at < length (world_of site history).batches
    → ((kept : Batch) → slice_get (world_of site history).batches at ≡ Some kept → view ≡ view_of site history kept) → is_expiry view.row.expiry ≡ true
unfolding view_of view_in
dated site history at view proper there is =
    let batches = (world_of site history).batches in
    let kept = got batches at there in
    let one : IsProperBatch site kept.0 = every_at (IsProperBatch site) batches at kept.0 there (sym (read_at batches at kept.0 kept.0 kept.1)) proper.batches in
    ap (λ (v : BatchView). is_expiry v.row.expiry) (is kept.0 kept.1) ∙ expiry_in kept.0.order one.order

-- what holds for each name
pub for_each : {T E : Type 0} (result : Result T E) (Q : Text → Type 0) (P : T → Text → Type 0) → ((name : Text) → Q name → IfOk result (λ x. P x name)) → IfOk result (λ x. (name : Text) → Q name → P x name)
for_each (Ok x) Q P each = each
for_each (Err e) Q P each = tt

pub report_none : (site : Setup) (history : List Entry) (name : Text) → batch_of (world_of site history) name ≡ None → report_text site history name ≡ None
unfolding report_text
report_none site history name none = rw none refl
