-- How the products and stations of a list are read, entry by entry.
use Rattle.std.proofs.Common.{◌≡◌, ℕ, ◌+◌, ◌∙◌, ◌<◌, ◌≤◌, List, [], ◌∷◌, ◌++◌, length, map, get_or, drop, Ok, Err, Bool, true, false, refl, ap, sym, subst, arith, Some, nat_lt, ◌==◌, ◌||◌}
use Rattle.std.specs.Cmp.{IsEquivalence}
use Rattle.std.specs.List.{list_all, list_any, IsDistinct}
use Rattle.std.proofs.lemmas.Bool.Decides.{nat_tests}
use Rattle.std.proofs.lemmas.Cmp.{nat_list_eq_equiv}
use Rattle.std.proofs.lemmas.List.{drop_all, map-append}
use Rattle.std.proofs.lemmas.List.Folds.{list_all-append}
use Rattle.std.proofs.lemmas.Map.Keys.{IsDistinct-push}
use Rattle.toml.specs.Data.{Data, as_array}
use Rattle.toml.specs.View.{view, items_view}
use Rattle.toml.specs.declared.value.Value.{Value}
use Rattle.toml.proofs.Views.{items_view-drop}
use Rattle.deed_words.specs.Names.{Text, same}
use Rattle.deed_words.specs.Setups.{is_product}
use Rattle.deed_words.specs.declared.setup.Product.{Product}
use Rattle.deed_words.specs.declared.setup.Station.{Station}
use Rattle.site_files.specs.Sites.{product_entry, has_gtin, products_after, station_entry, has_name, stations_after, count_of, field_of, entries_of}
use Rattle.site_files.specs.declared.fault.FileFault.{FileFault}
use Rattle.site_files.specs.declared.fault.FileFault.TheVariants.{NoField, Twice, TooMany}
use Rattle.site_files.specs.declared.fault.Word.{Word}
use Rattle.site_files.specs.declared.fault.Word.TheVariants as word

-- ---- one more that differs

same_equiv : IsEquivalence same
unfolding same
same_equiv = nat_list_eq_equiv

any_map : {X : Type 0} (f : X → Text) (name : Text) (xs : List X) → list_any (same name) (map f xs) ≡ list_any (λ y. same name (f y)) xs
any_map f name [] = refl
any_map f name (x ∷ xs) = ap (λ (b : Bool). same name (f x) || b) (any_map f name xs)

pub one_more_differs : {X : Type 0} (f : X → Text) (xs : List X) (x : X) → IsDistinct same (map f xs) → list_any (λ y. same (f x) (f y)) xs ≡ false → IsDistinct same (map f (xs ++ x ∷ []))
one_more_differs f xs x d new =
    let once : list_any (same (f x)) (map f xs) ≡ false = any_map f (f x) xs ∙ new in
    subst (IsDistinct same) (sym (map-append f xs (x ∷ []))) (IsDistinct-push same_equiv (map f xs) (f x) d once)

pub all_products : (ps : List Product) (p : Product) → list_all is_product ps ≡ true → is_product p ≡ true → list_all is_product (ps ++ p ∷ []) ≡ true
all_products ps p all one = list_all-append is_product ps (p ∷ []) ∙ (rw (all, one) refl)

-- ---- products

pub product_more : (seen : List Product) (vs : List Value) (i : ℕ) (d : Value) (p : Product) → i < length vs → product_entry (view (get_or vs i d)) ≡ Ok p → has_gtin p.gtin seen ≡ false
    → products_after seen (items_view (drop i vs)) ≡ products_after (seen ++ p ∷ []) (items_view (drop (i + 1) vs))
unfolding products_after
product_more seen vs i d p h is new = rw (items_view-drop vs i d h, is, new)

pub product_twice : (seen : List Product) (vs : List Value) (i : ℕ) (d : Value) (p : Product) → i < length vs → product_entry (view (get_or vs i d)) ≡ Ok p → has_gtin p.gtin seen ≡ true
    → products_after seen (items_view (drop i vs)) ≡ Err (Twice word.Gtin)
unfolding products_after
product_twice seen vs i d p h is old = rw (items_view-drop vs i d h, is, old)

pub product_fault : (seen : List Product) (vs : List Value) (i : ℕ) (d : Value) (e : FileFault) → i < length vs → product_entry (view (get_or vs i d)) ≡ Err e
    → products_after seen (items_view (drop i vs)) ≡ Err e
unfolding products_after
product_fault seen vs i d e h is = rw (items_view-drop vs i d h, is)

pub product_end : (seen : List Product) (vs : List Value) (i : ℕ) → length vs ≤ i → products_after seen (items_view (drop i vs)) ≡ Ok seen
unfolding products_after
product_end seen vs i h = rw (drop_all i vs h)

-- ---- stations

pub station_more : (seen : List Station) (vs : List Value) (i : ℕ) (d : Value) (s : Station) → i < length vs → station_entry (view (get_or vs i d)) ≡ Ok s → has_name s.name seen ≡ false
    → stations_after seen (items_view (drop i vs)) ≡ stations_after (seen ++ s ∷ []) (items_view (drop (i + 1) vs))
unfolding stations_after
station_more seen vs i d s h is new = rw (items_view-drop vs i d h, is, new)

pub station_twice : (seen : List Station) (vs : List Value) (i : ℕ) (d : Value) (s : Station) → i < length vs → station_entry (view (get_or vs i d)) ≡ Ok s → has_name s.name seen ≡ true
    → stations_after seen (items_view (drop i vs)) ≡ Err (Twice word.Name)
unfolding stations_after
station_twice seen vs i d s h is old = rw (items_view-drop vs i d h, is, old)

pub station_fault : (seen : List Station) (vs : List Value) (i : ℕ) (d : Value) (e : FileFault) → i < length vs → station_entry (view (get_or vs i d)) ≡ Err e
    → stations_after seen (items_view (drop i vs)) ≡ Err e
unfolding stations_after
station_fault seen vs i d e h is = rw (items_view-drop vs i d h, is)

pub station_end : (seen : List Station) (vs : List Value) (i : ℕ) → length vs ≤ i → stations_after seen (items_view (drop i vs)) ≡ Ok seen
unfolding stations_after
station_end seen vs i h = rw (drop_all i vs h)

-- ---- how many there are

count_is : (vs : List Value) → count_of (items_view vs) ≡ length vs
count_is [] = refl
count_is (v ∷ vs) = let more = count_is vs in rw more (omega arith)

pub entries_none : (w : Word) (most : ℕ) (d v : Data) (vs : List Value) → field_of w d ≡ Ok v → Some (items_view vs) ≡ as_array v → length vs ≡ 0 → entries_of w most d ≡ Err (NoField w)
unfolding entries_of
entries_none w most d v vs found is none =
    let zero : (count_of (items_view vs) == 0) ≡ true = rw (count_is vs, none) refl in
    rw (found, ← is, zero)

pub entries_many : (w : Word) (most : ℕ) (d v : Data) (vs : List Value) (n : ℕ) → field_of w d ≡ Ok v → Some (items_view vs) ≡ as_array v → n ≡ length vs → 0 < n → most < n → entries_of w most d ≡ Err (TooMany w)
unfolding entries_of
entries_many w most d v vs n found is same_count some_there more =
    let some : (count_of (items_view vs) == 0) ≡ false = rw (count_is vs, ← same_count) (grind (arith, nat_tests)) in
    let many : nat_lt most (count_of (items_view vs)) ≡ true = rw (count_is vs, ← same_count) (grind (arith, nat_tests)) in
    rw (found, ← is, some, many)

pub entries_few : (w : Word) (most : ℕ) (d v : Data) (vs : List Value) (n : ℕ) → field_of w d ≡ Ok v → Some (items_view vs) ≡ as_array v → n ≡ length vs → 0 < n → n ≤ most → entries_of w most d ≡ Ok (items_view vs)
unfolding entries_of
entries_few w most d v vs n found is same_count some_there few =
    let some : (count_of (items_view vs) == 0) ≡ false = rw (count_is vs, ← same_count) (grind (arith, nat_tests)) in
    let many : nat_lt most (count_of (items_view vs)) ≡ false = rw (count_is vs, ← same_count) (grind (arith, nat_tests)) in
    rw (found, ← is, some, many)
