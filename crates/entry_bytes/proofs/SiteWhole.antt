-- What reading and printing a site promise.
use Rattle.std.proofs.Common.{◌≡◌, ◌⊎◌, ℕ, ◌≤◌, Bool, true, false, cond, eqb, List, [], ◌∷◌, ◌++◌, length, map, Some, None, Result, Ok, Err, refl, sym, ap, subst, ◌∙◌, append_assoc, arith, inl, inr}
use Rattle.std.specs.Prelude.{◌||◌, nat_le}
use Rattle.std.specs.Cmp.{IsEquivalence}
use Rattle.std.specs.List.{AllByRecursion, list_all, list_any, IsDistinct}
use Rattle.std.proofs.lemmas.Bool.{le-leb, leb-true, and_parts, and_from}
use Rattle.std.proofs.lemmas.Bool.Decides.{nat_tests}
use Rattle.std.proofs.lemmas.Cmp.{nat_list_eq_equiv}
use Rattle.std.proofs.lemmas.List.{append-nil, map-append}
use Rattle.std.proofs.lemmas.List.Elements.{All-from_recursion, recursion_from_All}
use Rattle.std.proofs.lemmas.Map.Keys.{IsDistinct-push}
use Rattle.gs1_keys.specs.Keys.{is_between, is_digit, first_other, IsGln, IsGtin, IsText}
use Rattle.gs1_keys.specs.Forms.{is_form, longest}
use Rattle.gs1_keys.specs.declared.form.Alphabet.{Alphabet}
use Rattle.gs1_keys.specs.declared.form.Alphabet.TheVariants.{Digits, Base32}
use Rattle.gs1_keys.specs.declared.form.SerialForm.{SerialForm}
use Rattle.gs1_keys.proofs.Known.{gln_same, gln_digits, between, prefix_length}
use Rattle.deed_words.specs.Names.{same}
use Rattle.deed_words.specs.Setups.{Setup, IsProper, is_offset, is_product, reference_bound}
use Rattle.deed_words.specs.declared.setup.Product.{Product}
use Rattle.deed_words.specs.declared.setup.Station.{Station}
use Rattle.entry_bytes.specs.declared.fault.EntryFault.{EntryFault}
use Rattle.entry_bytes.specs.declared.fault.EntryFault.TheVariants.{Memory}
use Rattle.entry_bytes.specs.declared.version.Version.{Version}
use Rattle.entry_bytes.specs.declared.version.Version.TheVariants.{First, Second}
use Rattle.entry_bytes.specs.SiteFields.{parts_at, version_at, setup_at, setup_of}
use Rattle.entry_bytes.specs.Sites.{codes_bytes, parts_in, setup_in, setup_bytes, IsKeptSetup, IsOlderSetup, SpellsSetup}
use Rattle.entry_bytes.proofs.Full.{IsWithin}
use Rattle.entry_bytes.proofs.Codec.{IsBytes, IsBytes-rest}
use Rattle.entry_bytes.proofs.Groups.{whole_is}
use Rattle.entry_bytes.proofs.SiteSpelled.{AllAfter, IsFormIn, has_gtin, IsProductAfter, IsStationAfter, IsSite, parts_codec}

-- ---- each new among those before it, and all different

same_equiv : IsEquivalence same
unfolding same
same_equiv = nat_list_eq_equiv

any_map : {X : Type 0} (f : X → List ℕ) (name : List ℕ) (xs : List X) → list_any (same name) (map f xs) ≡ list_any (λ y. same name (f y)) xs
any_map f name [] = refl
any_map f name (x ∷ xs) = ap (λ (b : Bool). same name (f x) || b) (any_map f name xs)

new_differ : {X : Type 0} (f : X → List ℕ) (G : List X → X → Type 0) → ((before : List X) (x : X) → G before x → list_any (λ y. same (f x) (f y)) before ≡ false) → (before xs : List X) → IsDistinct same (map f before) → AllAfter G before xs → IsDistinct same (map f (before ++ xs))
unfolding AllAfter
new_differ {X} f G new before [] d h = subst (λ (ys : List X). IsDistinct same (map f ys)) (sym (append-nil before)) d
new_differ {X} f G new before (x ∷ xs) d h =
    let once : list_any (same (f x)) (map f before) ≡ false = any_map f (f x) before ∙ new before x h.0 in
    let pushed : IsDistinct same (map f before ++ f x ∷ []) = IsDistinct-push same_equiv (map f before) (f x) d once in
    let more : IsDistinct same (map f (before ++ x ∷ [])) = subst (IsDistinct same) (sym (map-append f before (x ∷ []))) pushed in
    subst (λ (ys : List X). IsDistinct same (map f ys)) (append_assoc before (x ∷ []) xs) (new_differ {X = X} f G new (before ++ x ∷ []) xs more h.1)

in_the_middle : {X : Type 0} (f : X → List ℕ) (P : List ℕ → Type 0) (before : List X) (x : X) (xs : List X) → AllByRecursion P (map f (before ++ x ∷ xs)) → P (f x)
in_the_middle f P [] x xs h = h.0
in_the_middle {X} f P (b ∷ bs) x xs h = in_the_middle {X = X} f P bs x xs h.1

none_before : {X : Type 0} (f : X → List ℕ) (before : List X) (x : X) (xs : List X) → IsDistinct same (map f (before ++ x ∷ xs)) → list_any (λ y. same (f x) (f y)) before ≡ false
unfolding IsDistinct
none_before f [] x xs d = refl
none_before {X} f (b ∷ bs) x xs d =
    let other : same (f x) (f b) ≡ false = same_equiv.symm (f x) (f b) ∙ in_the_middle {X = X} f (λ k. same (f b) k ≡ false) bs x xs d.0 in
    rw other (none_before {X = X} f bs x xs d.1)

differ_new : {X : Type 0} (f : X → List ℕ) (P : X → Type 0) (G : List X → X → Type 0) → ((before : List X) (x : X) → P x → list_any (λ y. same (f x) (f y)) before ≡ false → G before x) → (before xs : List X) → AllByRecursion P xs → IsDistinct same (map f (before ++ xs)) → AllAfter G before xs
unfolding AllAfter
differ_new f P G made before [] h d = tt
differ_new {X} f P G made before (x ∷ xs) h d =
    (made before x h.0 (none_before {X = X} f before x xs d), differ_new {X = X} f P G made (before ++ x ∷ []) xs h.1 (subst (λ (ys : List X). IsDistinct same (map f ys)) (sym (append_assoc before (x ∷ []) xs)) d))

each_after : {X : Type 0} (P : X → Type 0) (G : List X → X → Type 0) → ((before : List X) (x : X) → G before x → P x) → (before xs : List X) → AllAfter G before xs → AllByRecursion P xs
unfolding AllAfter
each_after P G told before [] h = tt
each_after {X} P G told before (x ∷ xs) h = (told before x h.0, each_after {X = X} P G told (before ++ x ∷ []) xs h.1)

-- ---- products

within : (low high n : ℕ) → IsWithin low high n → is_between low high n ≡ true
within low high n h = rw (le-leb low n h.0, le-leb n high h.1) refl

-- what is known of a product alone
abbrev IsOne : Version → Product → Type 0
IsOne version p = IsGtin p.gtin × (IsWithin 6 12 p.prefix_length × IsFormIn version p.form)

form_proper : (version : Version) (form : SerialForm) → IsFormIn version form → is_form form ≡ true
form_proper First form h =
    let most : longest form.alphabet ≡ 18 = rw h.1 refl in
    and_from (nat_le 6 form.length) (nat_le form.length (longest form.alphabet)) (le-leb 6 form.length h.0.0) (rw most (le-leb form.length 18 h.0.1))
form_proper Second form h = and_from (nat_le 6 form.length) (nat_le form.length (longest form.alphabet)) (le-leb 6 form.length h.1.0) (le-leb form.length (longest form.alphabet) h.1.1)

longest_most : (alphabet : Alphabet) → longest alphabet ≤ 18
longest_most Digits = omega arith
longest_most Base32 = omega arith

form_second : (form : SerialForm) → is_form form ≡ true → IsFormIn Second form
form_second form h =
    let p = and_parts (nat_le 6 form.length) (nat_le form.length (longest form.alphabet)) h in
    let low = leb-true 6 form.length p.0 in
    let high = leb-true form.length (longest form.alphabet) p.1 in
    ((low, omega (arith, high, longest_most form.alphabet)), (low, high))

form_first : (form : SerialForm) → is_form form ≡ true → form.alphabet ≡ Digits → IsFormIn First form
form_first form h digits = ((form_second form h).0, digits)

product_proper : (version : Version) (p : Product) → IsOne version p → is_product p ≡ true
unfolding is_product
product_proper version p h = and_from (is_between 6 12 p.prefix_length) (is_form p.form) (within 6 12 p.prefix_length h.1.0) (form_proper version p.form h.1.1)

products_proper : (version : Version) (xs : List Product) → AllByRecursion (IsOne version) xs → list_all is_product xs ≡ true
products_proper version [] h = refl
products_proper version (x ∷ xs) h = and_from (is_product x) (list_all is_product xs) (product_proper version x h.0) (products_proper version xs h.1)

gtins_kept : (version : Version) (xs : List Product) → AllByRecursion (IsOne version) xs → AllByRecursion (λ product. IsGtin product.gtin) xs
gtins_kept version [] h = tt
gtins_kept version (x ∷ xs) h = (h.0.0, gtins_kept version xs h.1)

digits_alone : (xs : List Product) → AllByRecursion (IsOne First) xs → AllByRecursion (λ product. product.form.alphabet ≡ Digits) xs
digits_alone [] h = tt
digits_alone (x ∷ xs) h = (h.0.1.1.1, digits_alone xs h.1)

parts_of : (p : Product) → is_product p ≡ true → IsWithin 6 12 p.prefix_length × (is_form p.form ≡ true)
unfolding is_product
parts_of p e = let a = and_parts (is_between 6 12 p.prefix_length) (is_form p.form) e in (between 6 12 p.prefix_length a.0, a.1)

ones_second : (xs : List Product) → AllByRecursion (λ product. IsGtin product.gtin) xs → list_all is_product xs ≡ true → AllByRecursion (IsOne Second) xs
ones_second [] k e = tt
ones_second (x ∷ xs) k e =
    let p = and_parts (is_product x) (list_all is_product xs) e in
    let q = parts_of x p.0 in
    ((k.0, (q.0, form_second x.form q.1)), ones_second xs k.1 p.1)

ones_first : (xs : List Product) → AllByRecursion (λ product. IsGtin product.gtin) xs → list_all is_product xs ≡ true → AllByRecursion (λ product. product.form.alphabet ≡ Digits) xs → AllByRecursion (IsOne First) xs
ones_first [] k e d = tt
ones_first (x ∷ xs) k e d =
    let p = and_parts (is_product x) (list_all is_product xs) e in
    let q = parts_of x p.0 in
    ((k.0, (q.0, form_first x.form q.1 d.0)), ones_first xs k.1 p.1 d.1)

-- ---- the whole

one_of_after : (version : Version) (before : List Product) (x : Product) → IsProductAfter version before x → IsOne version x
one_of_after version before x h = (h.0.0, h.1)

after_of_one : (version : Version) (before : List Product) (x : Product) → IsOne version x → has_gtin before x.gtin ≡ false → IsProductAfter version before x
after_of_one version before x h new = ((h.0, new), h.1)

ones : (version : Version) (s : Setup) → IsSite version s → AllByRecursion (IsOne version) s.products
ones version s h = each_after {X = Product} (IsOne version) (IsProductAfter version) (one_of_after version) [] s.products h.1.1.1.1.1.0.1

site_kept : (version : Version) (s : Setup) → IsSite version s → IsKeptSetup s
site_kept version s h = record {
  codes = (h.0, (h.1.0.0, h.1.1.1.0.1));
  gtins = All-from_recursion (λ product. IsGtin product.gtin) s.products (gtins_kept version s.products (ones version s h));
  names = All-from_recursion (λ station. IsText station.name) s.stations (each_after {X = Station} (λ station. IsText station.name) IsStationAfter (λ before x g. g.0.0) [] s.stations h.1.1.1.1.1.1.1);
}

site_proper : (version : Version) (s : Setup) → IsSite version s → IsProper s
unfolding reference_bound IsDistinct
site_proper version s h = record {
  prefix = prefix_length s.prefix h.1.0.0;
  gln = h.1.0.1;
  extension = h.1.1.0.1;
  reference = h.1.1.1.0.0;
  offset = h.1.1.1.1.0.0;
  product_count = h.1.1.1.1.1.0.0;
  products = products_proper version s.products (ones version s h);
  gtins_differ = new_differ {X = Product} (λ (p : Product). p.gtin) (IsProductAfter version) (λ before x g. g.0.1) [] s.products tt h.1.1.1.1.1.0.1;
  station_count = h.1.1.1.1.1.1.0;
  names_differ = new_differ {X = Station} (λ (t : Station). t.name) IsStationAfter (λ before x g. g.0.1) [] s.stations tt h.1.1.1.1.1.1.1;
}

pub offset_length : (text : List ℕ) → is_offset text ≡ true → length text ≡ 6
unfolding is_offset
offset_length text h = grind (arith, nat_tests)

site_of : (version : Version) (s : Setup) → IsKeptSetup s → IsProper s → AllByRecursion (IsOne version) s.products → IsSite version s
unfolding reference_bound
site_of version s k p each = (
  k.codes.0,
  (
    (k.codes.1.0, p.gln),
    (
      (omega arith, p.extension),
      (
        (p.reference, k.codes.1.1),
        (
          (p.offset, offset_length s.offset p.offset),
          (
            (p.product_count, differ_new {X = Product} (λ (q : Product). q.gtin) (IsOne version) (IsProductAfter version) (after_of_one version) [] s.products each p.gtins_differ),
            (p.station_count, differ_new {X = Station} (λ (t : Station). t.name) (λ t. IsText t.name) IsStationAfter (λ before x g new. ((g, new), tt)) [] s.stations (recursion_from_All (λ t. IsText t.name) s.stations k.names) p.names_differ),
          ),
        ),
      ),
    ),
  ),
)

-- ---- which version it is

digit_first : (digits x y : List ℕ) → length digits ≡ 13 → first_other is_digit 0 digits ≡ None → version_at ((digits ++ x) ++ y) ≡ (First, (digits ++ x) ++ y)
digit_first [] x y len h = absurd (omega (arith, len))
digit_first (d ∷ ds) x y len h = by (is_digit d) refl h
  where
    by : (b : Bool) → is_digit d ≡ b → cond b (first_other is_digit 1 ds) (Some 0) ≡ None → version_at (d ∷ ((ds ++ x) ++ y)) ≡ (First, d ∷ ((ds ++ x) ++ y))
    by true e h = let other : eqb d 2 ≡ false = grind (arith, nat_tests) in rw other refl
    by false e h = absurd cc

first_version : (s : Setup) → IsGln s.gln → version_at (parts_in First s) ≡ (First, parts_in First s)
unfolding codes_bytes
first_version s h = digit_first s.gln _ _ (gln_same s.gln s.gln h).1 (gln_digits s.gln h)

first_again : (s : Setup) → IsSite First s → setup_at (setup_in First s ++ []) ≡ Ok (s, [])
unfolding setup_at
first_again s h =
    let whole : setup_in First s ++ [] ≡ parts_in First s = append-nil (parts_in First s) in
    let here = parts_codec First in
    ap (λ (w : List ℕ). parts_at (version_at w).0 (version_at w).1) whole ∙ ap (λ (v : Version × List ℕ). parts_at v.0 v.1) (first_version s h.0) ∙ ap (parts_at First) (sym whole) ∙ here.again s [] h

second_again : (s : Setup) → IsSite Second s → setup_at (setup_in Second s ++ []) ≡ Ok (s, [])
unfolding setup_at
second_again s h = let here = parts_codec Second in here.again s [] h

-- ---- all of the bytes

spells_of : (version : Version) (s : Setup) (bytes : List ℕ) → IsSite version s → (version ≡ version → (bytes ≡ setup_bytes s) ⊎ IsOlderSetup s bytes) → SpellsSetup s bytes
spells_of version s bytes h by = record { kept = site_kept version s h; proper = site_proper version s h; spelling = by refl }

older_takes : (bytes : List ℕ) (s : Setup) → IsBytes bytes → parts_at First bytes ≡ Ok (s, []) → SpellsSetup s bytes
older_takes bytes s fits e =
    let here = parts_codec First in
    let t = here.takes bytes (s, []) fits e in
    let digits = All-from_recursion (λ product. product.form.alphabet ≡ Digits) s.products (digits_alone s.products (ones First s t.1)) in
    record { kept = site_kept First s t.1; proper = site_proper First s t.1; spelling = inr (record { digits = digits; older = t.0.parts ∙ append-nil (parts_in First s) }) }

newer_takes : (rest : List ℕ) (s : Setup) → IsBytes rest → parts_at Second rest ≡ Ok (s, []) → SpellsSetup s (2 ∷ rest)
newer_takes rest s fits e =
    let here = parts_codec Second in
    let t = here.takes rest (s, []) fits e in
    record { kept = site_kept Second s t.1; proper = site_proper Second s t.1; spelling = inl (ap (λ (w : List ℕ). 2 ∷ w) (t.0.parts ∙ append-nil (parts_in Second s))) }

takes_by : (b : ℕ) (rest : List ℕ) (s : Setup) → IsBytes (b ∷ rest) → (t : Bool) → eqb b 2 ≡ t → (let v : Version × List ℕ = cond t (Second, rest) (First, b ∷ rest) in parts_at v.0 v.1 ≡ Ok (s, [])) → SpellsSetup s (b ∷ rest)
takes_by b rest s fits true h e = let two_is : b ≡ 2 = grind (arith, nat_tests) in subst (λ (n : ℕ). SpellsSetup s (n ∷ rest)) (sym two_is) (newer_takes rest s (IsBytes-rest b rest fits) e)
takes_by b rest s fits false h e = older_takes (b ∷ rest) s fits e

setup_takes : (bytes : List ℕ) (s : Setup) → IsBytes bytes → setup_at bytes ≡ Ok (s, []) → SpellsSetup s bytes
unfolding setup_at
setup_takes [] s fits e = older_takes [] s fits e
setup_takes (b ∷ rest) s fits e = takes_by b rest s fits (eqb b 2) refl e

pub site_found : (bytes : List ℕ) (s : Setup) → IsBytes bytes → setup_of bytes ≡ Ok s → SpellsSetup s bytes
unfolding setup_of
site_found bytes s fits e = setup_takes bytes s fits (whole_is (length bytes) (setup_at bytes) s e)

read_whole : (bytes : List ℕ) (s : Setup) → setup_at (bytes ++ []) ≡ Ok (s, []) → setup_of bytes ≡ Ok s
unfolding setup_of
read_whole bytes s h = let r : setup_at bytes ≡ Ok (s, []) = ap setup_at (sym (append-nil bytes)) ∙ h in rw r refl

pub site_again : (s : Setup) (bytes : List ℕ) → SpellsSetup s bytes → setup_of bytes ≡ Ok s
site_again s bytes h = by h.spelling
  where
    gtins : AllByRecursion (λ product. IsGtin product.gtin) s.products
    gtins = let kept = h.kept in recursion_from_All (λ product. IsGtin product.gtin) s.products kept.gtins

    proper : list_all is_product s.products ≡ true
    proper = let p = h.proper in p.products

    by : (bytes ≡ setup_bytes s) ⊎ IsOlderSetup s bytes → setup_of bytes ≡ Ok s
    by (inl is) = ap setup_of is ∙ read_whole (setup_in Second s) s (second_again s (site_of Second s h.kept h.proper (ones_second s.products gtins proper)))
    by (inr o) = ap setup_of o.older ∙ read_whole (setup_in First s) s (first_again s (site_of First s h.kept h.proper (ones_first s.products gtins proper (recursion_from_All (λ product. product.form.alphabet ≡ Digits) s.products o.digits))))

-- ---- what the public calls promise

pub site_proper_read : (bytes : List ℕ) (s : Setup) → IsBytes bytes → setup_of bytes ≡ Ok s → IsProper s
site_proper_read bytes s fits e = let h = site_found bytes s fits e in h.proper

pub err_only : (bytes : List ℕ) (e : EntryFault) → (e ≡ Memory) ⊎ (setup_of bytes ≡ Err e) → (s : Setup) → SpellsSetup s bytes → (e ≡ Memory) ⊎ (Ok s ≡ Err e)
err_only bytes e (inl m) s h = inl m
err_only bytes e (inr f) s h = inr (sym (site_again s bytes h) ∙ f)

pub ok_only : (bytes : List ℕ) (read : Setup) → setup_of bytes ≡ Ok read → (s : Setup) → SpellsSetup s bytes → (let one : Result Setup EntryFault = Ok s in one ≡ Ok read)
ok_only bytes read e s h = sym (site_again s bytes h) ∙ e

-- two sites never share bytes
pub one_site : (bytes : List ℕ) (a b : Setup) → SpellsSetup a bytes → SpellsSetup b bytes → a ≡ b
one_site bytes a b s t =
    let e = sym (site_again a bytes s) ∙ site_again b bytes t in
    let equal : a ≡ b = cc in equal
