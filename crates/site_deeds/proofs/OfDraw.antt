-- Serials that are drawn.
use Rattle.std.proofs.Common.{◌≡◌, ◌≢◌, ◌≤◌, ◌+◌, ℕ, zero, suc, true, false, true≢false, List, [], ◌∷◌, length, take, Some, None, refl, sym, ap, ◌∙◌, subst, arith}
use Rattle.std.specs.Prelude.{bytes_eq}
use Rattle.std.proofs.lemmas.List.{length-map}
use Rattle.std.proofs.lemmas.List.Elements.{All-take}
use Rattle.std.proofs.lemmas.Map.Keys.{IsDistinct-head, IsDistinct-tail}
use Rattle.std.specs.List.{position, slice_get, IsDistinct, AllByRecursion as Every}
use Rattle.gs1_keys.specs.declared.form.SerialForm.{SerialForm}
use Rattle.gs1_keys.specs.Forms.{AreNew, is_in_form, is_among}
use Rattle.serial_pool.specs.declared.drawn.DrawnSerial.{DrawnSerial}
use Rattle.serial_pool.specs.Ends.{IsFirstNotNew}
use Rattle.serial_pool.specs.Held.{had_of, drawn_count}
use Rattle.deed_words.specs.Deeds.{batch_for, batch_named}
use Rattle.deed_words.specs.Rules.{broken}
use Rattle.deed_words.specs.Setups.{Setup, product_of}
use Rattle.deed_words.specs.declared.setup.Product.{Product}
use Rattle.deed_words.specs.Sound.{IsSound}
use Rattle.deed_words.specs.Tests.{rows_of_gtin}
use Rattle.deed_words.specs.World.{World, batch_of}
use Rattle.deed_words.specs.declared.deed.Deed.{Deed}
use Rattle.deed_words.specs.declared.deed.Deed.TheVariants.{Draw}
use Rattle.deed_words.specs.Effects.{with_drawn, gtin_of}
use Rattle.deed_words.specs.History.{serials_of, AreNewFor}
use Rattle.deed_words.specs.Names.{Text}
use Rattle.deed_words.specs.declared.reply.Answer.TheVariants.{Listed}
use Rattle.deed_words.specs.declared.world.Batch.{Batch}
use Rattle.batch_book.specs.Batches.{is_called}
use Rattle.batch_book.specs.Content.{Content, world_in, row_in, unit_in, batch_names}
use Rattle.site_rules.specs.Asked.{IsDrawnCount}
use Rattle.site_rules.specs.Suits.{is_draw}
use Rattle.site_stores.specs.declared.change.Change.TheVariants.{Drawn}
use Rattle.site_stores.specs.Holding.{Held, IsWhole}
use Rattle.site_stores.proofs.Draws.{new_may, drawn_world}
use Rattle.site_stores.proofs.Finding.{within, the_batch}
use Rattle.site_deeds.specs.declared.done.Done.{Done}
use Rattle.site_deeds.specs.Does.{Does}
use Rattle.site_deeds.specs.Draws.{drawn_in}
use Rattle.site_deeds.proofs.Drawable.{gtin_is, drawn_count_is, drawable, drawable_batch, same_product}
use Rattle.site_deeds.proofs.Serials.{had_is}
use Rattle.site_deeds.proofs.FromRules.{not_none}
use Rattle.site_deeds.proofs.Shared.{name_called, does_by}

pub draw_does : (held : Held) (done : Done) (name : Text) (at : ℕ) (kept : Batch) (form : SerialForm) (serials : List Text) → IsWhole held.content → position (is_called name) held.content.batches ≡ Some at → slice_get held.content.batches at ≡ Some kept
    → AreNew (serials_of (world_in held.content) (gtin_of (world_in held.content) name)) form serials → length serials ≤ held.room.rows → done.answer ≡ Listed serials → done.change ≡ Drawn at kept.order.gtin serials
    → Does held done (Listed serials) (with_drawn (world_in held.content) name serials)
draw_does held done name at kept form serials whole found there new room told is =
    let c = held.content in
    let gtin : kept.order.gtin ≡ gtin_of (world_in c) name = gtin_is (world_in c) name kept (the_batch c name at kept found there) in
    does_by held done (Listed serials) (Drawn at kept.order.gtin serials) _ told is whole
    (new_may c at kept.order.gtin form serials whole (within (is_called name) c.batches at found) (subst (λ (g : Text). AreNew (serials_of (world_in c) g) form serials) (sym gtin) new)).may
    (drawn_world c at kept.order.gtin serials kept whole there refl ∙ ap (λ (n : Text). with_drawn (world_in c) n serials) (name_called name c.batches at kept found there))
    (record { batches = omega arith; declarations = omega arith; rows = room; units = omega arith })

-- ---- how many serials are drawn of the GTIN of a draw's batch

pub draw_only : (deed : Deed) → is_draw deed ≡ true → ((name : Text) (count : ℕ) → deed ≡ Draw name count → ⊥) → ⊥
unfolding is_draw
draw_only (Draw name count) e other = other name count refl
draw_only deed e other = true≢false (sym e)

same_batch : (one other : Batch) → Some one ≡ Some other → one ≡ other
same_batch one other e = cc

pub count_is : (c : Content) (deed : Deed) (name : Text) (count : ℕ) (batch : Batch) (pairs : List DrawnSerial) (n : ℕ) → deed ≡ Draw name count → batch_of (world_in c) name ≡ Some batch → pairs ≡ drawn_in (world_in c) → n ≡ drawn_count batch.order.gtin pairs → IsDrawnCount c deed n
unfolding batch_for batch_named
count_is c deed name count batch pairs n is found pool counted draw other e =
    let one : batch ≡ other = same_batch batch other (sym found ∙ sym (ap (batch_for (world_in c)) is) ∙ e) in
    counted ∙ drawn_count_is (world_in c) pairs batch.order.gtin pool ∙ ap (λ (b : Batch). length (rows_of_gtin (world_in c) b.order.gtin)) one

none_batch : (batch : Batch) → None ≡ Some batch → ⊥
none_batch batch e = cc

pub count_nowhere : (c : Content) (deed : Deed) (name : Text) (count n : ℕ) → deed ≡ Draw name count → batch_of (world_in c) name ≡ None → IsDrawnCount c deed n
unfolding batch_for batch_named
count_nowhere c deed name count n is nowhere draw other e = absurd (none_batch other (sym nowhere ∙ sym (ap (batch_for (world_in c)) is) ∙ e))

-- ---- serials that are new, and the first of them

every_front : (P : Text → Type 0) (n : ℕ) (xs : List Text) → Every P xs → Every P (take n xs)
every_front P zero xs a = tt
every_front P (suc n) [] a = tt
every_front P (suc n) (x ∷ xs) a = (a.0, every_front P n xs a.1)

distinct_front : (n : ℕ) (xs : List Text) → IsDistinct bytes_eq xs → IsDistinct bytes_eq (take n xs)
unfolding IsDistinct
distinct_front zero xs d = tt
distinct_front (suc n) [] d = tt
distinct_front (suc n) (x ∷ xs) d = (every_front (λ (y : Text). bytes_eq x y ≡ false) n xs (IsDistinct-head bytes_eq x xs d), distinct_front n xs (IsDistinct-tail bytes_eq x xs d))

pub new_front : (had : List Text) (form : SerialForm) (serials : List Text) (n : ℕ) → AreNew had form serials → AreNew had form (take n serials)
new_front had form serials n new =
    record {
      formed = All-take (λ (s : Text). is_in_form form s ≡ true) n serials new.formed;
      unknown = All-take (λ (s : Text). is_among had s ≡ false) n serials new.unknown;
      distinct = distinct_front n serials new.distinct;
    }

-- ---- there is room for them

pub rows_left : (site : Setup) (c : Content) (station : ℕ) (name : Text) (count : ℕ) (serials : List Text) → broken site (world_in c) station (Draw name count) ≡ None → length serials ≡ count → length c.rows + length serials ≤ 1000000
rows_left site c station name count serials e counted =
    let found = drawable_batch site (world_in c) station name count e in
    let few = (drawable site (world_in c) station name count found.0 e found.1).few in
    let long : length (world_in c).rows ≡ length c.rows = length-map c.rows (row_in (batch_names c)) in
    omega (arith, few, long, counted)

pub draw_batch : (site : Setup) (w : World) (station : ℕ) (name : Text) (count : ℕ) → broken site w station (Draw name count) ≡ None → batch_of w name ≢ None
draw_batch site w station name count e = let found = drawable_batch site w station name count e in not_none (batch_of w name) found.0 found.1

pub few_units : (site : Setup) (c : Content) → IsSound site (world_in c) → length c.units ≤ 65536
few_units site c sound = subst (λ (n : ℕ). n ≤ 65536) (length-map c.units (unit_in (batch_names c))) sound.few_units

-- serials that aren't new for the draw
pub not_new_for : (site : Setup) (w : World) (name : Text) (count : ℕ) (batch : Batch) (product : Product) (pairs : List DrawnSerial) (serials : List Text) (i : ℕ) → batch_of w name ≡ Some batch → product_of site batch.order.gtin ≡ Some product → pairs ≡ drawn_in w
    → IsFirstNotNew (had_of batch.order.gtin pairs) product.form serials i → AreNewFor site w (gtin_of w name) count serials → ⊥
not_new_for site w name count batch product pairs serials i found made pool first new =
    let gtin : batch.order.gtin ≡ gtin_of w name = gtin_is w name batch found in
    let had : serials_of w (gtin_of w name) ≡ had_of batch.order.gtin pairs = ap (serials_of w) (sym gtin) ∙ sym (had_is w pairs batch.order.gtin pool) in
    let form : new.product.form ≡ product.form = ap (λ (p : Product). p.form) (same_product new.product product (sym new.made ∙ ap (product_of site) (sym gtin) ∙ made)) in
    first.not_new (new_front (had_of batch.order.gtin pairs) product.form serials (i + 1) (subst (λ (h : List Text). AreNew h product.form serials) had (subst (λ (f : SerialForm). AreNew (serials_of w (gtin_of w name)) f serials) form new.new)))
