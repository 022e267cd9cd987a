-- What was found of the names in a deed.
use Rattle.std.proofs.Common.{◌≡◌, ◌≢◌, ◌<◌, ℕ, true, true≢false, length, None, Some, sym, ap, ◌∙◌}
use Rattle.std.specs.Prelude.{Result, Ok, Err, IfOk}
use Rattle.std.specs.List.{position}
use Rattle.deed_words.specs.Deeds.{unit_named, batch_named}
use Rattle.deed_words.specs.Names.{Text}
use Rattle.deed_words.specs.World.{unit_of, batch_of}
use Rattle.deed_words.specs.declared.deed.Deed.{Deed}
use Rattle.deed_words.specs.declared.deed.Deed.TheVariants.{Draw}
use Rattle.pack_tree.specs.Units.{is_coded}
use Rattle.batch_book.specs.Batches.{is_called}
use Rattle.batch_book.specs.Content.{Content, world_in}
use Rattle.site_rules.specs.Asked.{IsFound, IsSubject}
use Rattle.site_rules.specs.Suits.{names_unit, is_about_batch}
use Rattle.site_rules.specs.declared.found.Found.{Found}
use Rattle.site_rules.specs.declared.subject.Subject.{Subject}
use Rattle.site_stores.proofs.Finding.{no_unit, no_batch, within}
use Rattle.site_deeds.specs.declared.done.Done.{Done}

module _ (c : Content) (deed : Deed) (found : Found) (is : IsFound c deed found) (sscc : Text) (names : names_unit deed ≡ true) (named : unit_named deed ≡ sscc) where
  -- the unit that the deed names is there
  pub unit_some : unit_of (world_in c) sscc ≢ None → found.unit ≢ None
  unit_some there none = there (no_unit c sscc (sym (is.unit_is names ∙ ap (λ (code : Text). position (is_coded code) c.units) named) ∙ none))

  -- and this is its place
  pub unit_place : (at : ℕ) → found.unit ≡ Some at → position (is_coded sscc) c.units ≡ Some at
  unit_place at here = sym (is.unit_is names ∙ ap (λ (code : Text). position (is_coded code) c.units) named) ∙ here

  pub unit_in : (at : ℕ) → found.unit ≡ Some at → at < length c.units
  unit_in at here = within (is_coded sscc) c.units at (unit_place at here)

module _ (c : Content) (deed : Deed) (found : Found) (is : IsFound c deed found) (name : Text) (about : is_about_batch deed ≡ true) (named : batch_named (world_in c) deed ≡ name) where
  -- the batch that the deed is about is there
  pub batch_some : batch_of (world_in c) name ≢ None → found.batch ≢ None
  batch_some there none = there (no_batch c name (sym (is.batch_is about ∙ ap (λ (n : Text). position (is_called n) c.batches) named) ∙ none))

  -- and this is its place
  pub batch_place : (at : ℕ) → found.batch ≡ Some at → position (is_called name) c.batches ≡ Some at
  batch_place at here = sym (is.batch_is about ∙ ap (λ (n : Text). position (is_called n) c.batches) named) ∙ here

  pub batch_in : (at : ℕ) → found.batch ≡ Some at → at < length c.batches
  batch_in at here = within (is_called name) c.batches at (batch_place at here)

-- what a deed is about is what was found of its unit and its batch
pub subject_found : (c : Content) (deed : Deed) (found : Found) (subject : Subject) → IsFound c deed found → subject.unit ≡ found.unit → subject.batch ≡ found.batch → IsSubject c deed subject
subject_found c deed found subject is unit batch = record { unit_is = λ names. unit ∙ is.unit_is names; batch_is = λ about. batch ∙ is.batch_is about }

-- a draw is about the batch that it names, and about no unit
pub subject_drawn : (c : Content) (name : Text) (count at : ℕ) → position (is_called name) c.batches ≡ Some at → IsSubject c (Draw name count) (record { unit = None; batch = Some at })
unfolding names_unit batch_named
subject_drawn c name count at place = record { unit_is = λ names. absurd (true≢false (sym names)); batch_is = λ about. sym place }

-- what is done at a place is done to what has the place
pub done_to : {E : Type 0} (r : Result Done E) (IsOf : Text → Type 0) (Is : Text → Done → Type 0) (name : Text) → IsOf name → IfOk r (λ done. (n : Text) → IsOf n → Is n done) → IfOk r (λ done. Is name done)
done_to (Ok done) IsOf Is name of h = h name of
done_to (Err fault) IsOf Is name of h = tt
