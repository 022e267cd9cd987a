-- What is changed and taken back is as it was.
use Rattle.std.proofs.Common.{◌≡◌, ◌-◌, List, [], ◌∷◌, ◌++◌, length, take, refl, sym, ap, ◌∙◌, arith}
use Rattle.std.proofs.lemmas.List.{length_push, take_at}
use Rattle.deed_words.specs.declared.world.Batch.{Batch}
use Rattle.item_store.specs.declared.row.ItemRow.{ItemRow}
use Rattle.pack_tree.specs.declared.node.UnitRow.{UnitRow}
use Rattle.pack_tree.specs.Many.{with_all_put, but_all_put, without_all, with_all_back}
use Rattle.pack_tree.specs.Packing.{Packed}
use Rattle.pack_tree.specs.Units.{marked, new_unit}
use Rattle.pack_tree.proofs.ManyLaws.{put_keeps, take_keeps, put_and_back, take_and_back}
use Rattle.pack_tree.proofs.Shelves.{marked_back}
use Rattle.pack_tree.proofs.Stepping.{there_and_back}
use Rattle.batch_book.specs.declared.row.DeclarationRow.{DeclarationRow}
use Rattle.batch_book.specs.Content.{Content}
use Rattle.batch_book.specs.Said.{declared}
use Rattle.batch_book.proofs.Named.{phased_back, amended_back}
use Rattle.site_stores.specs.declared.change.Change.{Change}
use Rattle.site_stores.specs.declared.change.Change.TheVariants.{Nothing, Turned, Put, Taken, Phased, Amended, Marked, Said, Made, Ordered, Drawn}
use Rattle.site_stores.specs.Changes.{one_turned, one_turned_back, IsTurn, one_ordered, one_fewer, IsNew, one_drawn, one_undrawn, IsNewRow, applied, taken_back, MayChange, MayApply}
use Rattle.site_stores.specs.Holding.{Held, packed_in, with_packed}
use Rattle.site_stores.proofs.Applying.{packed_again, phased_there, phased_at, open_there}
use Rattle.site_stores.proofs.Booking.{order_law}
use Rattle.site_stores.proofs.RowsDrawn.{draw_law}
use Rattle.site_stores.proofs.Finding.{read_at}
use Rattle.site_stores.proofs.Turning.{turn_law}

-- all but the last of a list that grew by one
but_last : {A : Type 0} (xs : List A) (x : A) → take (length (xs ++ x ∷ []) - 1) (xs ++ x ∷ []) ≡ xs
but_last xs x = take_at xs (x ∷ []) _ (let long = length_push xs x in omega (arith, long))

kind : (c : Content) (change : Change) → MayChange c change → taken_back (applied c change) change ≡ c
unfolding MayChange
kind c Nothing may = refl
kind c (Turned turns) may = ap (λ (rows : List ItemRow). record c { rows = rows }) (there_and_back one_turned IsTurn one_turned_back turn_law c.rows turns may)
kind c (Put unit nodes) may =
    ap (λ (p : Packed). with_packed c (but_all_put p nodes)) (packed_again c (with_all_put (packed_in c) unit nodes) (put_keeps (packed_in c) unit nodes).0 (put_keeps (packed_in c) unit nodes).1)
    ∙ ap (with_packed c) (put_and_back (packed_in c) unit nodes may)
kind c (Taken gone) may =
    ap (λ (p : Packed). with_packed c (with_all_back p gone)) (packed_again c (without_all (packed_in c) gone) (take_keeps (packed_in c) gone).0 (take_keeps (packed_in c) gone).1)
    ∙ ap (with_packed c) (take_and_back (packed_in c) gone may)
kind c (Phased batch old new) may = ap (λ (batches : List Batch). record c { batches = batches }) (phased_back c.batches batch old new (phased_there c batch old may) (phased_at c batch old may))
kind c (Amended batch old new) may =
    ap (λ (batches : List Batch). record c { batches = batches }) (amended_back c.batches batch old new (open_there c batch old may) (λ d. ap (λ (b : Batch). b.quantity) (read_at c.batches batch may.kept d may.there) ∙ may.is))
kind c (Marked unit old new) may =
    ap (λ (units : List UnitRow). record c { units = units }) (ap (marked (marked c.units unit new) unit) (sym may.is) ∙ marked_back c.units unit may.kept new may.there)
kind c (Said batch line numbers) may = ap (λ (said : List DeclarationRow). record c { said = said }) (but_last c.said (declared batch line numbers))
kind c (Made sscc batch level) may = ap (λ (units : List UnitRow). record c { units = units }) (but_last c.units (new_unit sscc batch level))
kind c (Ordered orders) may = ap (λ (batches : List Batch). record c { batches = batches }) (there_and_back one_ordered IsNew one_fewer order_law c.batches orders may)
kind c (Drawn batch gtin serials) may =
    ap (λ (rows : List ItemRow). record c { rows = rows }) (there_and_back (one_drawn batch gtin) (IsNewRow gtin) one_undrawn (draw_law batch gtin) c.rows serials may.may)

pub applied_and_back : (c : Content) (change : Change) → MayApply c change → taken_back (applied c change) change ≡ c
applied_and_back c change may = kind c change may.may

pub held_same : (a b : Held) → a.content ≡ b.content → a.room ≡ b.room → a ≡ b
held_same a b content room = λ z. record { content = content z; room = room z }
