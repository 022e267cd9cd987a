-- The batch of a unit, by its place.
use Rattle.std.proofs.Common.{◌≡◌, ◌<◌, ℕ, [], length, get_or, Option, None, Some, sym, ap, ◌∙◌}
use Rattle.std.specs.List.{position, slice_get}
use Rattle.std.specs.Option.{option_map_or}
use Rattle.std.proofs.lemmas.List.{get_or-map}
use Rattle.deed_words.specs.Deeds.{batch_with}
use Rattle.deed_words.specs.Names.{Text, same}
use Rattle.deed_words.specs.declared.world.Batch.{Batch}
use Rattle.deed_words.specs.declared.world.Container.{Container}
use Rattle.deed_words.proofs.Sameness.{same-itself}
use Rattle.pack_tree.specs.declared.node.UnitRow.{UnitRow}
use Rattle.pack_tree.specs.Units.{is_coded}
use Rattle.batch_book.specs.Batches.{AreApart, is_called, name_in, planned}
use Rattle.batch_book.specs.Content.{Content, world_in, batch_names}
use Rattle.batch_book.proofs.Named.{found_there, found_nowhere}
use Rattle.site_stores.specs.Holding.{IsWhole}
use Rattle.site_stores.proofs.Finding.{no_unit, the_unit, at_place}
use Rattle.site_rules.proofs.Naming.{empty_not}

no_batch : Batch
no_batch = planned (record { batch = []; gtin = []; lot = []; expiry = []; quantity = 0; case_size = 0; pallet_size = 0 })

-- a batch is found by its own name
own_batch : (c : Content) → AreApart c.batches → (at : ℕ) → at < length c.batches → position (is_called (get_or (batch_names c) at [])) c.batches ≡ Some at
unfolding is_called
own_batch c apart at l =
    let name : Text = get_or (batch_names c) at [] in
    found_there c.batches name at no_batch apart l (ap (λ (t : Text). same t name) (sym (get_or-map name_in c.batches at no_batch [] l)) ∙ same-itself name)

-- the batch of a unit that is there is that of its row
pub unit_batch : (c : Content) → IsWhole c → (sscc : Text) (at : ℕ) (unit : UnitRow) → position (is_coded sscc) c.units ≡ Some at → slice_get c.units at ≡ Some unit → Some unit.batch ≡ position (is_called (batch_with (world_in c) sscc)) c.batches
unfolding batch_with
unit_batch c whole sscc at unit e here =
    sym (own_batch c whole.batches_apart unit.batch (at_place (λ (u : UnitRow). u.batch < length c.batches) c.units at unit here whole.units))
    ∙ ap (λ (o : Option Container). position (is_called (option_map_or (λ (u : Container). u.batch) o [])) c.batches) (sym (the_unit c sscc at unit e here))

-- a unit that isn't there has none
pub no_unit_batch : (c : Content) → IsWhole c → (sscc : Text) → position (is_coded sscc) c.units ≡ None → None ≡ position (is_called (batch_with (world_in c) sscc)) c.batches
unfolding batch_with is_called
no_unit_batch c whole sscc e =
    sym (found_nowhere c.batches [] (λ k d l. empty_not (get_or c.batches k d).order.batch (whole.batches_named k d l)))
    ∙ ap (λ (o : Option Container). position (is_called (option_map_or (λ (u : Container). u.batch) o [])) c.batches) (sym (no_unit c sscc e))
