-- What a line got of a batch and what it declared, by name and by number.
use Rattle.std.proofs.Common.{◌≡◌, ℕ, ◌<◌, ◌&&◌, Bool, true, false, eqb, List, [], ◌∷◌, length, map, Option, Some, None, refl, sym, ap, ◌∙◌, All}
use Rattle.std.specs.Prelude.{find, reverse, option_map, nat_eq}
use Rattle.std.specs.List.{list_any}
use Rattle.std.proofs.lemmas.Bool.{eq-eqb, ne_eqb}
use Rattle.std.proofs.lemmas.List.Sums.{length-filter}
use native.Mathlib.Decide.{ℕ_discrete}
use Rattle.deed_words.specs.Names.{Text, same}
use Rattle.deed_words.specs.Chain.{holds_of}
use Rattle.deed_words.specs.World.{rows_in}
use Rattle.deed_words.specs.Accounts.{was_lent_to, rows_of_line, how_many, line_numbers, declared_numbers, has_line, is_good, is_spoiled, is_returned}
use Rattle.deed_words.specs.declared.words.State.{State}
use Rattle.deed_words.specs.declared.words.State.TheVariants.{Fresh, Lent, Returned, Spoiled, Active, Sampled, Rejected, Gone}
use Rattle.deed_words.specs.declared.world.Row.{Row}
use Rattle.deed_words.specs.declared.world.Declaration.{Declaration}
use Rattle.item_store.specs.declared.row.ItemRow.{ItemRow}
use Rattle.item_store.specs.Rows.{is_line, is_lent_to, line_class, count_to, line_counts_of}
use Rattle.batch_book.specs.declared.row.DeclarationRow.{DeclarationRow}
use Rattle.batch_book.specs.Batches.{name_in, AreApart, IsNamed}
use Rattle.batch_book.specs.Said.{numbers_in, is_by, declared_last}
use Rattle.batch_book.specs.Content.{Content, name_at, row_in, said_in, world_in}
use Rattle.batch_book.proofs.Found.{any_filtered, length_filtered, find_mapped, reverse_mapped}
use Rattle.batch_book.proofs.Bridge.{own_name}

eqb_comm : (a b : ℕ) → eqb a b ≡ eqb b a
eqb_comm a b = elim (ℕ_discrete a b) [
  | yes e ↦ eq-eqb a b e ∙ sym (eq-eqb b a (sym e))
  | no ne ↦ ne_eqb a b ne ∙ sym (ne_eqb b a (λ e. ne (sym e)))
]

-- the row was lent to the line
lent_same : (own : Option ℕ) (line : ℕ) → holds_of (nat_eq line) own ≡ is_line own line
unfolding holds_of
lent_same None line = refl
lent_same (Some own) line = eqb_comm line own

good_same : (state : State) → is_good state ≡ eqb (line_class state) 1
unfolding is_good
good_same Fresh = refl
good_same Lent = refl
good_same Returned = refl
good_same Spoiled = refl
good_same Active = refl
good_same Sampled = refl
good_same Rejected = refl
good_same Gone = refl

spoiled_same : (state : State) → is_spoiled state ≡ eqb (line_class state) 2
unfolding is_spoiled
spoiled_same Fresh = refl
spoiled_same Lent = refl
spoiled_same Returned = refl
spoiled_same Spoiled = refl
spoiled_same Active = refl
spoiled_same Sampled = refl
spoiled_same Rejected = refl
spoiled_same Gone = refl

returned_same : (state : State) → is_returned state ≡ eqb (line_class state) 3
unfolding is_returned
returned_same Fresh = refl
returned_same Lent = refl
returned_same Returned = refl
returned_same Spoiled = refl
returned_same Active = refl
returned_same Sampled = refl
returned_same Rejected = refl
returned_same Gone = refl

and_nested : (a b c : Bool) → (a && (b && c)) ≡ ((a && b) && c)
and_nested true b c = refl
and_nested false b c = refl

module _ (c : Content) (apart : AreApart c.batches) (named : All IsNamed c.batches) (batch : ℕ) (within : batch < length c.batches) (line : ℕ) where
  abbrev names : List Text
  names = map name_in c.batches

  abbrev name : Text
  name = name_at c.batches batch

  abbrev own : Row → Bool
  own row = same row.batch name

  lent : (row : ItemRow) → (own (row_in names row) && was_lent_to line (row_in names row)) ≡ is_lent_to batch line row
  unfolding was_lent_to
  lent row = λ z. own_name c.batches apart named batch within row.batch z && lent_same row.line line z

  -- the line was lent serials of the batch
  pub has_line_is : has_line (world_in c) name line ≡ list_any (is_lent_to batch line) c.rows
  unfolding has_line rows_in
  has_line_is = any_filtered (row_in names) own (was_lent_to line) (is_lent_to batch line) lent c.rows

  many_is : (test : State → Bool) (class : ℕ) → ((state : State) → test state ≡ eqb (line_class state) class) → how_many test (rows_of_line (world_in c) name line) ≡ count_to batch line class c.rows
  unfolding how_many rows_of_line rows_in
  many_is test class agree =
      length_filtered (row_in names) own (was_lent_to line) (λ (row : Row). test row.state) (λ row. is_lent_to batch line row && eqb (line_class row.state) class)
      (λ row. and_nested (own (row_in names row)) (was_lent_to line (row_in names row)) (test row.state) ∙ (λ z. lent row z && agree row.state z)) c.rows
      ∙ length-filter (λ row. is_lent_to batch line row && eqb (line_class row.state) class) c.rows

  -- good, spoiled and returned, as the rows have them
  pub line_numbers_is : line_numbers (world_in c) name line ≡ line_counts_of batch line c.rows
  unfolding line_numbers
  line_numbers_is = λ z. many_is is_good 1 good_same z ∷ many_is is_spoiled 2 spoiled_same z ∷ many_is is_returned 3 returned_same z ∷ []

  said_same : (said : DeclarationRow) → (same (said_in names said).batch name && nat_eq (said_in names said).line line) ≡ is_by batch line said
  said_same said = λ z. own_name c.batches apart named batch within said.batch z && eqb said.line line

  told : (found : Option DeclarationRow) → option_map (λ (said : Declaration). said.good ∷ said.spoiled ∷ said.returned ∷ []) (option_map (said_in names) found) ≡ option_map numbers_in found
  told None = refl
  told (Some said) = refl

  -- good, spoiled and returned, as the line declared them last
  pub declared_is : declared_numbers (world_in c) name line ≡ declared_last batch line c.said
  unfolding declared_numbers
  declared_is =
      ap (λ (ds : List Declaration). option_map (λ (said : Declaration). said.good ∷ said.spoiled ∷ said.returned ∷ []) (find (λ (said : Declaration). same said.batch name && nat_eq said.line line) ds)) (reverse_mapped (said_in names) c.said)
      ∙ ap (option_map (λ (said : Declaration). said.good ∷ said.spoiled ∷ said.returned ∷ [])) (find_mapped (said_in names) (λ (said : Declaration). same said.batch name && nat_eq said.line line) (is_by batch line) said_same (reverse c.said))
      ∙ told (find (is_by batch line) (reverse c.said))
