-- What is worked out of a deed before its rules are tried.
use Rattle.std.specs.Prelude.{◌≡◌, ℕ, true, List, map, length, Option, Some}
use Rattle.std.specs.List.{position}
use Rattle.epc_urn.specs.declared.epc.Epc.{Epc}
use Rattle.deed_words.specs.Deeds.{named, unit_named, batch_named, batch_for, order_rows}
use Rattle.deed_words.specs.Tests.{rows_of_gtin}
use Rattle.deed_words.specs.declared.deed.Deed.{Deed}
use Rattle.deed_words.specs.declared.deed.Deed.TheVariants.{Sample, Reject, Reinstate, Destroy, Decommission, Pack, Unpack}
use Rattle.deed_words.specs.declared.world.Batch.{Batch}
use Rattle.name_marks.specs.Repeats.{first_repeat}
use Rattle.pack_tree.specs.Units.{is_coded}
use Rattle.batch_book.specs.Batches.{is_called}
use Rattle.batch_book.specs.Content.{Content, world_in}
use Rattle.site_stores.specs.Places.{place_of}
use Rattle.site_rules.specs.Origins.{AreOrigins}
use Rattle.site_rules.specs.Suits.{is_draw, names_unit, is_about_batch}
use Rattle.site_rules.specs.declared.found.Found.{Found}
use Rattle.site_rules.specs.declared.subject.Subject.{Subject}

-- the things that the deed names: those that it lists, or else those that were made of it
unfoldable pub listed : Deed → List Epc → List Epc
listed (Sample name items) made = items
listed (Reject name items) made = items
listed (Reinstate name items) made = items
listed (Destroy name items) made = items
listed (Decommission name items) made = items
listed (Pack unit children) made = children
listed (Unpack unit children) made = children
listed deed made = made

-- where the unit is that the deed names, if it names one
abbrev pub IsUnitPlace : Content → Deed → Option ℕ → Type 0
IsUnitPlace c deed unit = names_unit deed ≡ true → unit ≡ position (is_coded (unit_named deed)) c.units

-- where the batch is that the deed is about, if it is about one
abbrev pub IsBatchPlace : Content → Deed → Option ℕ → Type 0
IsBatchPlace c deed batch = is_about_batch deed ≡ true → batch ≡ position (is_called (batch_named (world_in c) deed)) c.batches

-- what was found of the unit and the batch that the deed is about
pub record IsSubject (c : Content) (deed : Deed) (subject : Subject) : Type 0 where
  pub unit_is : IsUnitPlace c deed subject.unit
  pub batch_is : IsBatchPlace c deed subject.batch

-- where the unit and the things are that the deed names, and the batch that it is about, and where the batches of its
-- order rows were first ordered
pub record IsFound (c : Content) (deed : Deed) (found : Found) : Type 0 where
  pub unit_is : IsUnitPlace c deed found.unit
  pub batch_is : IsBatchPlace c deed found.batch
  pub places_are : found.places.items ≡ map (place_of c.rows c.units) (named (world_in c) deed)
  pub origins_are : AreOrigins c (order_rows deed) found.origins.items

-- the names of the things that the deed names, what was found of them and of its order rows, and the place of the first
-- name that stands earlier too
pub record IsAsked (c : Content) (deed : Deed) (names : List Epc) (found : Found) (repeat : Option ℕ) : Type 0 where
  pub names_are : names ≡ named (world_in c) deed
  pub unit_is : IsUnitPlace c deed found.unit
  pub batch_is : IsBatchPlace c deed found.batch
  pub places_are : found.places.items ≡ map (place_of c.rows c.units) names
  pub origins_are : AreOrigins c (order_rows deed) found.origins.items
  pub repeat_is : repeat ≡ first_repeat names

-- for a draw, so many serials of the batch's GTIN are drawn
abbrev pub IsDrawnCount : Content → Deed → ℕ → Type 0
IsDrawnCount c deed drawn = is_draw deed ≡ true → (batch : Batch) → batch_for (world_in c) deed ≡ Some batch → drawn ≡ length (rows_of_gtin (world_in c) batch.order.gtin)
