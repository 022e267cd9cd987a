-- What stands at the place of a thing.
use Rattle.std.proofs.Common.{◌≡◌, ◌<◌, ℕ, map, length, get_or, List, Option, None, Some, refl, sym, ap, ◌∙◌, subst}
use Rattle.std.specs.Prelude.{option_map}
use Rattle.std.specs.List.{slice_get}
use Rattle.std.proofs.lemmas.List.{length-map, get_or-map}
use Rattle.epc_urn.specs.declared.epc.Epc.TheVariants.{Item, Unit as Box}
use Rattle.deed_words.specs.Names.{Text}
use Rattle.deed_words.specs.World.{row_of, unit_of}
use Rattle.item_store.specs.declared.row.ItemRow.{ItemRow}
use Rattle.item_store.specs.Rows.{is_named}
use Rattle.pack_tree.specs.declared.node.Node.TheVariants.{Item as AnItem, Unit as AUnit}
use Rattle.pack_tree.specs.declared.node.UnitRow.{UnitRow}
use Rattle.pack_tree.specs.Units.{is_coded}
use Rattle.batch_book.specs.Content.{Content, world_in, row_in, unit_in, batch_names}
use Rattle.site_stores.specs.Places.{place_of}
use Rattle.site_stores.proofs.Finding.{no_row, the_row, no_unit, the_unit, within}

item_none : (o : Option ℕ) → option_map AnItem o ≡ None → o ≡ None
item_none None e = refl
item_none (Some at) e = absurd (cc)

item_some : (o : Option ℕ) (at : ℕ) → option_map AnItem o ≡ Some (AnItem at) → o ≡ Some at
item_some None at e = absurd (cc)
item_some (Some k) at e = cc

item_unit : (o : Option ℕ) (at : ℕ) → option_map AnItem o ≡ Some (AUnit at) → ⊥
item_unit None at e = absurd (cc)
item_unit (Some k) at e = absurd (cc)

unit_none : (o : Option ℕ) → option_map AUnit o ≡ None → o ≡ None
unit_none None e = refl
unit_none (Some at) e = absurd (cc)

unit_some : (o : Option ℕ) (at : ℕ) → option_map AUnit o ≡ Some (AUnit at) → o ≡ Some at
unit_some None at e = absurd (cc)
unit_some (Some k) at e = cc

unit_item : (o : Option ℕ) (at : ℕ) → option_map AUnit o ≡ Some (AnItem at) → ⊥
unit_item None at e = absurd (cc)
unit_item (Some k) at e = absurd (cc)

-- ---- items

pub row_nowhere : (c : Content) (gtin serial : Text) → place_of c.rows c.units (Item gtin serial) ≡ None → row_of (world_in c) gtin serial ≡ None
unfolding place_of
row_nowhere c gtin serial e = no_row c gtin serial (item_none _ e)

pub row_within : (c : Content) (gtin serial : Text) (at : ℕ) → place_of c.rows c.units (Item gtin serial) ≡ Some (AnItem at) → at < length c.rows
unfolding place_of
row_within c gtin serial at e = within (is_named gtin serial) c.rows at (item_some _ at e)

pub row_placed : (c : Content) (gtin serial : Text) (at : ℕ) (row : ItemRow) → place_of c.rows c.units (Item gtin serial) ≡ Some (AnItem at) → slice_get c.rows at ≡ Some row → row_of (world_in c) gtin serial ≡ Some (row_in (batch_names c) row)
unfolding place_of
row_placed c gtin serial at row e here = the_row c gtin serial at row (item_some _ at e) here

pub row_no_unit : (c : Content) (gtin serial : Text) (at : ℕ) → place_of c.rows c.units (Item gtin serial) ≡ Some (AUnit at) → ⊥
unfolding place_of
row_no_unit c gtin serial at e = item_unit _ at e

-- ---- units

pub unit_nowhere : (c : Content) (sscc : Text) → place_of c.rows c.units (Box sscc) ≡ None → unit_of (world_in c) sscc ≡ None
unfolding place_of
unit_nowhere c sscc e = no_unit c sscc (unit_none _ e)

pub unit_within : (c : Content) (sscc : Text) (at : ℕ) → place_of c.rows c.units (Box sscc) ≡ Some (AUnit at) → at < length c.units
unfolding place_of
unit_within c sscc at e = within (is_coded sscc) c.units at (unit_some _ at e)

pub unit_placed : (c : Content) (sscc : Text) (at : ℕ) (unit : UnitRow) → place_of c.rows c.units (Box sscc) ≡ Some (AUnit at) → slice_get c.units at ≡ Some unit → unit_of (world_in c) sscc ≡ Some (unit_in (batch_names c) unit)
unfolding place_of
unit_placed c sscc at unit e here = the_unit c sscc at unit (unit_some _ at e) here

pub unit_no_item : (c : Content) (sscc : Text) (at : ℕ) → place_of c.rows c.units (Box sscc) ≡ Some (AnItem at) → ⊥
unfolding place_of
unit_no_item c sscc at e = unit_item _ at e

-- ---- places beside names

pub placed_within : {A B : Type 0} (f : A → B) (xs : List A) (ys : List B) (i : ℕ) → ys ≡ map f xs → i < length xs → i < length ys
placed_within f xs ys i h l = subst (λ (n : ℕ). i < n) (sym (ap length h ∙ length-map xs f)) l

pub placed_at : {A B : Type 0} (f : A → B) (xs : List A) (ys : List B) (i : ℕ) (x : A) (e : B) → ys ≡ map f xs → i < length xs → x ≡ get_or xs i x → get_or ys i e ≡ f x
placed_at {A} {B} f xs ys i x e h l n = ap (λ (zs : List B). get_or zs i e) h ∙ get_or-map f xs i x e l ∙ ap f (sym n)

pub made_within : {A B C : Type 0} (f : B → C) (g : A → B) (xs : List A) (ys : List C) (i : ℕ) → ys ≡ map f (map g xs) → i < length xs → i < length ys
made_within f g xs ys i h l = placed_within f (map g xs) ys i h (subst (λ (n : ℕ). i < n) (sym (length-map xs g)) l)

pub made_at : {A B C : Type 0} (f : B → C) (g : A → B) (xs : List A) (ys : List C) (i : ℕ) (x : A) (e : C) → ys ≡ map f (map g xs) → i < length xs → x ≡ get_or xs i x → get_or ys i e ≡ f (g x)
made_at f g xs ys i x e h l n = placed_at f (map g xs) ys i (g x) e h (subst (λ (k : ℕ). i < k) (sym (length-map xs g)) l) (ap g n ∙ sym (get_or-map g xs i x (g x) l))
