-- Batches, rows and units by their names.
use Rattle.std.proofs.Common.{◌≡◌, ◌<◌, ◌≤◌, nat_lt, ℕ, zero, suc, Bool, true, false, List, [], ◌∷◌, map, length, Some, None, refl, ap, ◌∙◌, subst, arith, All, get_or}
use Rattle.std.specs.Prelude.{find, cond, option_map}
use Rattle.std.specs.List.{slice_get, position, position_or_len}
use Rattle.std.proofs.lemmas.List.Folds.{find_at}
use Rattle.std.proofs.lemmas.Bool.Decides.{nat_tests}
use Rattle.epc_urn.specs.declared.epc.Epc.TheVariants.{Item}
use Rattle.deed_words.specs.Names.{Text, same, same_name}
use Rattle.deed_words.specs.World.{batch_of, row_of, unit_of, name_of}
use Rattle.deed_words.specs.declared.world.Batch.{Batch}
use Rattle.deed_words.specs.declared.world.Container.{Container}
use Rattle.deed_words.specs.declared.world.Row.{Row}
use Rattle.item_store.specs.declared.row.ItemRow.{ItemRow}
use Rattle.item_store.specs.Rows.{is_named, item_name}
use Rattle.pack_tree.specs.declared.node.UnitRow.{UnitRow}
use Rattle.pack_tree.specs.Units.{is_coded}
use Rattle.batch_book.specs.Batches.{is_called}
use Rattle.batch_book.specs.Content.{Content, world_in, row_in, unit_in, batch_names}

past : {A : Type 0} (xs : List A) (k : ℕ) → length xs ≤ k → slice_get xs k ≡ None
past [] k l = refl
past (x ∷ xs) zero l = absurd (omega (arith, l))
past (x ∷ xs) (suc k) l = past xs k (omega (arith, l))

none_below : (n m : ℕ) → cond (nat_lt n m) (Some n) None ≡ None → m ≤ n
none_below n m e = (elim (nat_lt n m) as (λ b. nat_lt n m ≡ b → cond b (Some n) None ≡ None → m ≤ n) [ true ↦ λ t e. absurd (cc) | false ↦ λ t e. grind (arith, nat_tests, t) ]) refl e

some_below : (n m at : ℕ) → cond (nat_lt n m) (Some n) None ≡ Some at → at < m
some_below n m at e =
    (elim (nat_lt n m) as (λ b. nat_lt n m ≡ b → cond b (Some n) None ≡ Some at → at < m) [
      | true ↦ λ t e. let s : n ≡ at = cc in grind (arith, nat_tests, t, s)
      | false ↦ λ t e. absurd (cc)
    ]) refl e

some_is : (b : Bool) (n at : ℕ) → cond b (Some n) None ≡ Some at → n ≡ at
some_is true n at e = cc
some_is false n at e = absurd (cc)

-- where no place is found, and where one is
pub nowhere : {A : Type 0} (test : A → Bool) (xs : List A) → position test xs ≡ None → find test xs ≡ None
nowhere test xs e = find_at test xs ∙ past xs (position_or_len test xs) (none_below _ _ e)

pub somewhere : {A : Type 0} (test : A → Bool) (xs : List A) (at : ℕ) (x : A) → position test xs ≡ Some at → slice_get xs at ≡ Some x → find test xs ≡ Some x
somewhere {A} test xs at x e here = find_at test xs ∙ ap (λ (k : ℕ). slice_get xs k) (some_is _ _ at e) ∙ here

-- a place that is found is there
pub within : {A : Type 0} (test : A → Bool) (xs : List A) (at : ℕ) → position test xs ≡ Some at → at < length xs
within test xs at e = some_below _ _ at e

-- a place has what the list has there
pub at_place : {A : Type 0} (P : A → Type 0) (xs : List A) (at : ℕ) (x : A) → slice_get xs at ≡ Some x → All P xs → P x
at_place P [] at x e a = absurd (cc)
at_place P (y ∷ xs) zero x e a = let s : y ≡ x = cc in subst P s (a 0 y (omega arith))
at_place P (y ∷ xs) (suc at) x e a = at_place P xs at x e (λ k d l. a (suc k) d (omega (arith, l)))

pub read_at : {A : Type 0} (xs : List A) (at : ℕ) (x d : A) → slice_get xs at ≡ Some x → get_or xs at d ≡ x
read_at [] at x d e = absurd (cc)
read_at (y ∷ xs) zero x d e = cc
read_at (y ∷ xs) (suc at) x d e = read_at xs at x d e

-- a part of what stands at a place
pub part_there : {A B : Type 0} (part : A → B) (xs : List A) (at : ℕ) (x : A) (d : B) → slice_get xs at ≡ Some x → get_or (map part xs) at d ≡ part x
part_there part [] at x d e = absurd (cc)
part_there part (y ∷ xs) zero x d e = ap part (let s : y ≡ x = cc in s)
part_there part (y ∷ xs) (suc at) x d e = part_there part xs at x d e

-- ---- batches
pub no_batch : (c : Content) (name : Text) → position (is_called name) c.batches ≡ None → batch_of (world_in c) name ≡ None
unfolding batch_of is_called
no_batch c name e = nowhere (λ (batch : Batch). same batch.order.batch name) c.batches e

pub the_batch : (c : Content) (name : Text) (at : ℕ) (batch : Batch) → position (is_called name) c.batches ≡ Some at → slice_get c.batches at ≡ Some batch → batch_of (world_in c) name ≡ Some batch
unfolding batch_of is_called
the_batch c name at batch e here = somewhere (λ (batch : Batch). same batch.order.batch name) c.batches at batch e here

-- ---- rows
found_row : (batches : List Text) (gtin serial : Text) (rows : List ItemRow) → find (λ (row : Row). same_name (name_of row) (Item gtin serial)) (map (row_in batches) rows) ≡ option_map (row_in batches) (find (is_named gtin serial) rows)
unfolding is_named
found_row batches gtin serial [] = refl
found_row batches gtin serial (row ∷ rows) =
    elim (same_name (item_name row) (Item gtin serial)) as (λ b. cond b (Some (row_in batches row)) (find (λ (r : Row). same_name (name_of r) (Item gtin serial)) (map (row_in batches) rows)) ≡ option_map (row_in batches) (cond b (Some row) (find (is_named gtin serial) rows))) [
      | true ↦ refl
      | false ↦ found_row batches gtin serial rows
    ]

pub no_row : (c : Content) (gtin serial : Text) → position (is_named gtin serial) c.rows ≡ None → row_of (world_in c) gtin serial ≡ None
unfolding row_of
no_row c gtin serial e = found_row (batch_names c) gtin serial c.rows ∙ ap (option_map (row_in (batch_names c))) (nowhere (is_named gtin serial) c.rows e)

pub the_row : (c : Content) (gtin serial : Text) (at : ℕ) (row : ItemRow) → position (is_named gtin serial) c.rows ≡ Some at → slice_get c.rows at ≡ Some row → row_of (world_in c) gtin serial ≡ Some (row_in (batch_names c) row)
unfolding row_of
the_row c gtin serial at row e here = found_row (batch_names c) gtin serial c.rows ∙ ap (option_map (row_in (batch_names c))) (somewhere (is_named gtin serial) c.rows at row e here)

-- ---- units
found_unit : (batches : List Text) (sscc : Text) (units : List UnitRow) → find (λ (unit : Container). same unit.sscc sscc) (map (unit_in batches) units) ≡ option_map (unit_in batches) (find (is_coded sscc) units)
unfolding is_coded
found_unit batches sscc [] = refl
found_unit batches sscc (unit ∷ units) =
    elim (same unit.sscc sscc) as (λ b. cond b (Some (unit_in batches unit)) (find (λ (u : Container). same u.sscc sscc) (map (unit_in batches) units)) ≡ option_map (unit_in batches) (cond b (Some unit) (find (is_coded sscc) units))) [
      | true ↦ refl
      | false ↦ found_unit batches sscc units
    ]

pub no_unit : (c : Content) (sscc : Text) → position (is_coded sscc) c.units ≡ None → unit_of (world_in c) sscc ≡ None
unfolding unit_of
no_unit c sscc e = found_unit (batch_names c) sscc c.units ∙ ap (option_map (unit_in (batch_names c))) (nowhere (is_coded sscc) c.units e)

pub the_unit : (c : Content) (sscc : Text) (at : ℕ) (unit : UnitRow) → position (is_coded sscc) c.units ≡ Some at → slice_get c.units at ≡ Some unit → unit_of (world_in c) sscc ≡ Some (unit_in (batch_names c) unit)
unfolding unit_of
the_unit c sscc at unit e here = found_unit (batch_names c) sscc c.units ∙ ap (option_map (unit_in (batch_names c))) (somewhere (is_coded sscc) c.units at unit e here)
