-- Where reading a site stops, and what the whole answers there.
use Rattle.std.proofs.Common.{◌≡◌, ◌⊎◌, ℕ, ◌-◌, ◌^◌, ◌≤◌, Bool, true, false, cond, eqb, List, [], ◌∷◌, ◌++◌, length, take, Result, Ok, Err, refl, sym, ap, subst, ◌∙◌, arith, inl, inr}
use Rattle.std.specs.Prelude.{nat_le}
use Rattle.std.specs.List.{list_any}
use Rattle.std.specs.Result.{result_ok}
use Rattle.std.specs.Int.{w16, w64}
use Rattle.std.proofs.lemmas.Bool.{eqb-true, cases_lt}
use Rattle.std.proofs.lemmas.List.{take_at, length-append, nil_from_length, get_or_past}
use Rattle.gs1_keys.specs.Keys.{gln_of}
use Rattle.gs1_keys.specs.declared.form.Alphabet.TheVariants.{Digits, Base32}
use Rattle.deed_words.specs.Names.{same}
use Rattle.deed_words.specs.declared.setup.Product.{Product}
use Rattle.deed_words.specs.declared.setup.Station.{Station}
use Rattle.entry_bytes.specs.declared.fault.Stop.{Stop}
use Rattle.entry_bytes.specs.declared.fault.Stop.TheVariants.{Short, BadTag, BadField, Memory}
use Rattle.entry_bytes.specs.declared.fault.EntryFault.{EntryFault}
use Rattle.entry_bytes.specs.declared.fault.EntryFault.TheVariants as fault
use Rattle.entry_bytes.specs.declared.version.Version.{Version}
use Rattle.entry_bytes.specs.declared.version.Version.TheVariants.{First, Second}
use Rattle.entry_bytes.specs.Reading.{Reader, many_after, byte_at, ranged, cut}
use Rattle.entry_bytes.specs.Fields.{pair, text_at, gtin_at}
use Rattle.entry_bytes.specs.Deeds.{group_at, placed, whole, entries_of}
use Rattle.entry_bytes.specs.Faults.{AreBytes, IsStop}
use Rattle.entry_bytes.specs.SiteFields.{gln_at, prefix_for, prefix_at, extension_at, reference_at, offset_of, offset_at, make_form, serial_length_at, alphabet_at, form_at, prefix_length_at, new_gtin_at, make_product, product_at, products_at, new_name_at, role_of_byte, role_at, make_station, station_at, stations_at, make_setup, after_prefix, after_gln, parts_at, version_at, setup_at, setup_of}
use Rattle.entry_bytes.proofs.Codec.{IsBytes, IsBytes-rest, byte_codec, number16, ranged_codec}
use Rattle.entry_bytes.proofs.SiteSpelled.{gln_codec, prefix_codec, extension_codec, reference_codec, offset_codec, serial_length_codec, prefix_length_codec, new_gtin_codec, new_name_codec, product_codec, products_codec, station_codec, IsProductAfter, IsStationAfter}
use Rattle.entry_bytes.proofs.Stops.{left_of, StopsAt, Stops, Field, field_stops, bind_stops, one_stops, two_stops, two_after_stops, many_after_stops, byte_field, number_field, tested_field, ranged_field, below_field, cut_told, fixed_field}
use Rattle.entry_bytes.proofs.Fronts.{gtin_field, text_field, group_stops}

-- ---- fields of a site

gln_field : Field gln_at
unfolding gln_at
gln_field = fixed_field (λ x. result_ok (gln_of x)) 13 refl

prefix_field : (gln : List ℕ) → Field (prefix_at gln)
unfolding prefix_at
prefix_field gln = tested_field {read = ranged 6 12 byte_at} (λ bytes n. cut (prefix_for gln) (length bytes) n.0 n.1) (ranged_field 6 12 byte_field) (λ bytes n e h. cut_told (prefix_for gln) (length bytes) n.0 n.1 e h)

extension_field : Field extension_at
unfolding extension_at
extension_field = ranged_field 0 9 byte_field

reference_field : (prefix : List ℕ) → Field (reference_at prefix)
unfolding reference_at
reference_field prefix = below_field (10 ^ (16 - length prefix)) (number_field w64 refl)

offset_field : Field offset_at
unfolding offset_at
offset_field = fixed_field offset_of 6 refl

serial_length_field : Field serial_length_at
unfolding serial_length_at
serial_length_field = ranged_field 6 18 byte_field

-- the letters, where they fit
letters_told : {A : Type 0} (digits fits : Bool) (x y : A) (left : ℕ) (e : Stop) → cond digits (Ok x) (cond fits (Ok y) (Err (BadField left))) ≡ Err e → left_of e ≡ left
letters_told true fits x y left e h = absurd cc
letters_told false true x y left e h = absurd cc
letters_told false false x y left e h = let s : BadField left ≡ e = cc in ap left_of (sym s)

alphabet_field : (n : ℕ) → Field (alphabet_at n)
unfolding alphabet_at
alphabet_field n = tested_field {read = ranged 1 2 byte_at} (λ bytes k. cond (eqb k.0 1) (Ok (Digits, k.1)) (cond (nat_le n 12) (Ok (Base32, k.1)) (Err (BadField (length bytes))))) (ranged_field 1 2 byte_field) (λ bytes k e h. letters_told (eqb k.0 1) (nat_le n 12) (Digits, k.1) (Base32, k.1) (length bytes) e h)

form_stops : (version : Version) → Stops (form_at version)
unfolding form_at
form_stops First = one_stops (λ n. make_form n Digits) (field_stops serial_length_field)
form_stops Second = two_after_stops make_form serial_length_codec (field_stops serial_length_field) (λ n. field_stops (alphabet_field n))

prefix_length_field : Field prefix_length_at
unfolding prefix_length_at
prefix_length_field = ranged_field 6 12 byte_field

-- a key that came before is told where it begins
known_told : (known : Bool) (x : List ℕ × List ℕ) (left : ℕ) (e : Stop) → cond known (Err (BadField left)) (Ok x) ≡ Err e → left_of e ≡ left
known_told true x left e h = let s : BadField left ≡ e = cc in ap left_of (sym s)
known_told false x left e h = absurd cc

new_gtin_field : (before : List Product) → Field (new_gtin_at before)
unfolding new_gtin_at
new_gtin_field before = tested_field {read = gtin_at} (λ bytes g. cond (list_any (λ product. same g.0 product.gtin) before) (Err (BadField (length bytes))) (Ok g)) gtin_field (λ bytes g e h. known_told (list_any (λ product. same g.0 product.gtin) before) g (length bytes) e h)

new_name_field : (before : List Station) → Field (new_name_at before)
unfolding new_name_at
new_name_field before = tested_field {read = text_at} (λ bytes t. cond (list_any (λ station. same t.0 station.name) before) (Err (BadField (length bytes))) (Ok t)) text_field (λ bytes t e h. known_told (list_any (λ station. same t.0 station.name) before) t (length bytes) e h)

product_stops : (version : Version) (before : List Product) → Stops (product_at version before)
unfolding product_at
product_stops version before = two_stops make_product (new_gtin_codec before) (field_stops (new_gtin_field before)) (two_stops pair prefix_length_codec (field_stops prefix_length_field) (form_stops version))

products_stops : (version : Version) → Stops (products_at version)
unfolding products_at
products_stops version = bind_stops (λ n. many_after (product_at version) [] n) (ranged_codec 1 256 (λ n le. omega arith) number16) (field_stops (ranged_field 1 256 (number_field w16 refl))) (λ n. many_after_stops (IsProductAfter version) (product_at version) (product_codec version) (product_stops version) [] n)

role_stops : Stops role_at
unfolding role_at
role_stops = one_stops role_of_byte (field_stops (ranged_field 1 3 byte_field))

station_stops : (before : List Station) → Stops (station_at before)
unfolding station_at
station_stops before = two_stops make_station (new_name_codec before) (field_stops (new_name_field before)) role_stops

stations_stops : Stops stations_at
unfolding stations_at
stations_stops = bind_stops (λ n. many_after station_at [] n) (ranged_codec 1 64 (λ n le. omega arith) byte_codec) (field_stops (ranged_field 1 64 byte_field)) (λ n. many_after_stops IsStationAfter station_at station_codec station_stops [] n)

after_prefix_stops : (version : Version) (prefix : List ℕ) → Stops (after_prefix version prefix)
unfolding after_prefix
after_prefix_stops version prefix = two_stops pair extension_codec (field_stops extension_field) (two_stops pair (reference_codec prefix) (field_stops (reference_field prefix)) (two_stops pair offset_codec (field_stops offset_field) (two_stops pair (products_codec version) (products_stops version) stations_stops)))

after_gln_stops : (version : Version) (gln : List ℕ) → Stops (after_gln version gln)
unfolding after_gln
after_gln_stops version gln = two_after_stops pair (prefix_codec gln) (field_stops (prefix_field gln)) (after_prefix_stops version)

parts_stops : (version : Version) → Stops (parts_at version)
unfolding parts_at
parts_stops version = two_after_stops make_setup gln_codec (field_stops gln_field) (after_gln_stops version)

-- bytes that begin with another byte than 2
older_stops : (b : ℕ) (rest : List ℕ) (e : Stop) → IsBytes (b ∷ rest) → eqb b 2 ≡ false → parts_at First (b ∷ rest) ≡ Err e → StopsAt setup_at (b ∷ rest) e
unfolding setup_at
older_stops b rest e fits other h = record { front = here.front; back = here.back; parts = here.parts; left = here.left; next = as_older here.front (begins here.front here.parts) here.next }
  where
    here : StopsAt (parts_at First) (b ∷ rest) e
    here = parts_stops First (b ∷ rest) e fits h

    as_older : (front : List ℕ) → (front ≡ []) ⊎ ((tail : List ℕ) × (front ≡ b ∷ tail)) → parts_at First front ≡ Err (Short 0) → parts_at (version_at front).0 (version_at front).1 ≡ Err (Short 0)
    as_older front (inl none) next = ap (λ (w : List ℕ). parts_at (version_at w).0 (version_at w).1) none ∙ ap (parts_at First) (sym none) ∙ next
    as_older front (inr some) next =
        ap (λ (w : List ℕ). parts_at (version_at w).0 (version_at w).1) some.1
        ∙ ap (λ (t : Bool). parts_at (let v : Version × List ℕ = cond t (Second, some.0) (First, b ∷ some.0) in v).0 (let v : Version × List ℕ = cond t (Second, some.0) (First, b ∷ some.0) in v).1) other
        ∙ ap (parts_at First) (sym some.1) ∙ next

    begins : (front : List ℕ) → b ∷ rest ≡ front ++ here.back → (front ≡ []) ⊎ ((tail : List ℕ) × (front ≡ b ∷ tail))
    begins [] parts = inl refl
    begins (f ∷ fs) parts = let first : b ≡ f = cc in inr (fs, ap (λ (n : ℕ). n ∷ fs) (sym first))

newer_stops : (rest : List ℕ) (e : Stop) → IsBytes rest → parts_at Second rest ≡ Err e → StopsAt setup_at (2 ∷ rest) e
unfolding setup_at
newer_stops rest e fits h =
    let here = parts_stops Second rest e fits h in
    record { front = 2 ∷ here.front; back = here.back; parts = ap (λ (w : List ℕ). 2 ∷ w) here.parts; left = here.left; next = here.next }

stops_by : (b : ℕ) (rest : List ℕ) (e : Stop) → IsBytes (b ∷ rest) → (t : Bool) → eqb b 2 ≡ t → (let v : Version × List ℕ = cond t (Second, rest) (First, b ∷ rest) in parts_at v.0 v.1 ≡ Err e) → StopsAt setup_at (b ∷ rest) e
stops_by b rest e fits true is h = subst (λ (n : ℕ). StopsAt setup_at (n ∷ rest) e) (sym (eqb-true b 2 is)) (newer_stops rest e (IsBytes-rest b rest fits) h)
stops_by b rest e fits false is h = older_stops b rest e fits is h

none_stops : (e : Stop) → IsBytes [] → parts_at First [] ≡ Err e → StopsAt setup_at [] e
unfolding setup_at
none_stops e fits h =
    let here = parts_stops First [] e fits h in
    let empty : here.front ≡ [] = nil_from_length here.front (let long = ap (λ (w : List ℕ). length w) here.parts in omega (arith, long, length-append here.front here.back)) in
    let next : parts_at First [] ≡ Err (Short 0) = ap (parts_at First) (sym empty) ∙ here.next in
    record { front = []; back = here.back; parts = here.parts ∙ ap (λ (w : List ℕ). w ++ here.back) empty; left = here.left; next = next }

pub setup_stops : Stops setup_at
unfolding setup_at
setup_stops [] e fits h = none_stops e fits h
setup_stops (b ∷ rest) e fits h = stops_by b rest e fits (eqb b 2) refl h

-- ---- all of the bytes

abbrev failed : {X : Type 0} → EntryFault → Result X EntryFault
failed f = Err f

-- the place of the fault is that where reading stopped
place_is : (total : ℕ) (e : Stop) (f : EntryFault) (at : ℕ) → placed total e ≡ f → IsStop f at → total - left_of e ≡ at
place_is total (Short left) f at p (inl s) = let both : fault.Short (total - left) ≡ fault.Short at = p ∙ s in cc
place_is total (Short left) f at p (inr (inl s)) = absurd (let both : fault.Short (total - left) ≡ fault.BadTag at = p ∙ s in cc)
place_is total (Short left) f at p (inr (inr s)) = absurd (let both : fault.Short (total - left) ≡ fault.BadField at = p ∙ s in cc)
place_is total (BadTag left) f at p (inl s) = absurd (let both : fault.BadTag (total - left) ≡ fault.Short at = p ∙ s in cc)
place_is total (BadTag left) f at p (inr (inl s)) = let both : fault.BadTag (total - left) ≡ fault.BadTag at = p ∙ s in cc
place_is total (BadTag left) f at p (inr (inr s)) = absurd (let both : fault.BadTag (total - left) ≡ fault.BadField at = p ∙ s in cc)
place_is total (BadField left) f at p (inl s) = absurd (let both : fault.BadField (total - left) ≡ fault.Short at = p ∙ s in cc)
place_is total (BadField left) f at p (inr (inl s)) = absurd (let both : fault.BadField (total - left) ≡ fault.BadTag at = p ∙ s in cc)
place_is total (BadField left) f at p (inr (inr s)) = let both : fault.BadField (total - left) ≡ fault.BadField at = p ∙ s in cc
place_is total Memory f at p (inl s) = absurd (let both : fault.Memory ≡ fault.Short at = p ∙ s in cc)
place_is total Memory f at p (inr (inl s)) = absurd (let both : fault.Memory ≡ fault.BadTag at = p ∙ s in cc)
place_is total Memory f at p (inr (inr s)) = absurd (let both : fault.Memory ≡ fault.BadField at = p ∙ s in cc)

never_extra : (n : ℕ) (f : EntryFault) (at : ℕ) → fault.Extra n ≡ f → IsStop f at → ⊥
never_extra n f at p (inl s) = let both : fault.Extra n ≡ fault.Short at = p ∙ s in cc
never_extra n f at p (inr (inl s)) = let both : fault.Extra n ≡ fault.BadTag at = p ∙ s in cc
never_extra n f at p (inr (inr s)) = let both : fault.Extra n ≡ fault.BadField at = p ∙ s in cc

whole_stop : {X : Type 0} (total : ℕ) (r : Result (X × List ℕ) Stop) (f : EntryFault) (at : ℕ) → whole total r ≡ Err f → IsStop f at → (e : Stop) × (r ≡ Err e) × (total - left_of e ≡ at)
whole_stop total (Err e) f at h s = (e, refl, place_is total e f at (let same : placed total e ≡ f = cc in same) s)
whole_stop {X} total (Ok x) f at h s = absurd (by (eqb (length x.1) 0) h)
  where
    by : (b : Bool) → cond b (Ok x.0) (Err (fault.Extra (total - length x.1))) ≡ Err f → ⊥
    by true h = cc
    by false h = never_extra (total - length x.1) f at (let same : fault.Extra (total - length x.1) ≡ f = cc in same) s

all_bytes : (bytes : List ℕ) → AreBytes bytes → IsBytes bytes
all_bytes bytes h i =
    elim (cases_lt i (length bytes)) [
      | inl lt ↦ h i 0 lt
      | inr le ↦ rw (get_or_past bytes i 0 le) (omega arith)
    ]

-- the bytes in front of the place are fields that were read, and there the next one begins
cut_there : {X : Type 0} (read : Reader X) → Stops read → (bytes : List ℕ) (f : EntryFault) (at : ℕ) → AreBytes bytes → whole (length bytes) (read bytes) ≡ Err f → IsStop f at
    → (at ≤ length bytes) × (whole (length (take at bytes)) (read (take at bytes)) ≡ Err (fault.Short at))
cut_there {X} read stops bytes f at fits h s =
    let w = whole_stop (length bytes) (read bytes) f at h s in
    let here = stops bytes w.0 (all_bytes bytes fits) w.1 in
    let long = ap (λ (l : List ℕ). length l) here.parts in
    let sum = length-append here.front here.back in
    let place : at ≡ length here.front = omega (arith, long, sum, here.left, w.2) in
    let front : take at bytes ≡ here.front = ap (take at) here.parts ∙ take_at here.front here.back at (sym place) in (
      omega (arith, long, sum, place),
      ap (λ (l : List ℕ). whole (length l) (read l)) front ∙ ap (whole (length here.front)) here.next ∙ ap (λ (n : ℕ). failed (fault.Short n)) (let zero_less : length here.front - 0 ≡ length here.front = omega arith in zero_less ∙ sym place),
    )

pub entries_cut : (bytes : List ℕ) (f : EntryFault) (at : ℕ) → AreBytes bytes → entries_of bytes ≡ Err f → IsStop f at → (at ≤ length bytes) × (entries_of (take at bytes) ≡ Err (fault.Short at))
unfolding entries_of
entries_cut bytes f at fits h s = cut_there group_at group_stops bytes f at fits h s

pub setup_cut : (bytes : List ℕ) (f : EntryFault) (at : ℕ) → AreBytes bytes → setup_of bytes ≡ Err f → IsStop f at → (at ≤ length bytes) × (setup_of (take at bytes) ≡ Err (fault.Short at))
unfolding setup_of
setup_cut bytes f at fits h s = cut_there setup_at setup_stops bytes f at fits h s
