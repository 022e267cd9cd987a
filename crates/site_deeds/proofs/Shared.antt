-- What several kinds of deeds share.
use Rattle.std.proofs.Common.{◌≡◌, ◌<◌, ℕ, zero, suc, Bool, true, List, [], ◌∷◌, length, Some, refl, sym, ap, ◌∙◌, subst, arith}
use Rattle.std.specs.List.{position, slice_get}
use Rattle.deed_words.specs.Names.{Text}
use Rattle.deed_words.specs.World.{World}
use Rattle.deed_words.specs.declared.reply.Answer.{Answer}
use Rattle.deed_words.specs.declared.world.Batch.{Batch}
use Rattle.deed_words.proofs.Items.{find_passes}
use Rattle.deed_words.proofs.Sameness.{same-true}
use Rattle.pack_tree.specs.declared.node.UnitRow.{UnitRow}
use Rattle.pack_tree.specs.Units.{is_coded}
use Rattle.batch_book.specs.Batches.{is_called}
use Rattle.batch_book.specs.Content.{world_in}
use Rattle.site_stores.specs.declared.change.Change.{Change}
use Rattle.site_stores.specs.Changes.{applied, MayApply, MayChange, room_for, no_room}
use Rattle.site_stores.specs.Holding.{Held, Room, IsWithin, IsWhole}
use Rattle.site_stores.proofs.Finding.{somewhere}
use Rattle.site_deeds.specs.declared.done.Done.{Done}
use Rattle.site_deeds.specs.Does.{Does}

-- what stands at a place
pub got : {A : Type 0} (xs : List A) (k : ℕ) → k < length xs → (x : A) × (slice_get xs k ≡ Some x)
got [] k l = absurd (omega (arith, l))
got (x ∷ xs) zero l = (x, refl)
got (x ∷ xs) (suc k) l = got xs k (omega (arith, l))

-- what is found passes the test
pub passes_at : {A : Type 0} (test : A → Bool) (xs : List A) (at : ℕ) (x : A) → position test xs ≡ Some at → slice_get xs at ≡ Some x → test x ≡ true
passes_at test xs at x e here = find_passes test xs x (somewhere test xs at x e here)

pub name_called : (name : Text) (batches : List Batch) (at : ℕ) (batch : Batch) → position (is_called name) batches ≡ Some at → slice_get batches at ≡ Some batch → batch.order.batch ≡ name
unfolding is_called
name_called name batches at batch e here = same-true batch.order.batch name (passes_at (is_called name) batches at batch e here)

pub code_found : (sscc : Text) (units : List UnitRow) (at : ℕ) (unit : UnitRow) → position (is_coded sscc) units ≡ Some at → slice_get units at ≡ Some unit → unit.sscc ≡ sscc
unfolding is_coded
code_found sscc units at unit e here = same-true unit.sscc sscc (passes_at (is_coded sscc) units at unit e here)

-- no room is there always
pub nothing_needed : (room : Room) → IsWithin no_room room
nothing_needed room = record { batches = omega arith; declarations = omega arith; rows = omega arith; units = omega arith }

-- a deed is done by a change
pub does_by : (held : Held) (done : Done) (answer : Answer) (change : Change) (w : World) → done.answer ≡ answer → done.change ≡ change → IsWhole held.content → MayChange held.content change → world_in (applied held.content change) ≡ w → IsWithin (room_for change) held.room
    → Does held done answer w
does_by held done answer change w told is whole may effect room =
    record {
      answer_is = told;
      may = subst (MayApply held.content) (sym is) (record { whole = whole; may = may });
      effect_is = ap (λ (ch : Change). world_in (applied held.content ch)) is ∙ effect;
      room = subst (λ (ch : Change). IsWithin (room_for ch) held.room) (sym is) room;
    }
