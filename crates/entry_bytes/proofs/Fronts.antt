-- Where reading groups and sites stops.
use Rattle.std.proofs.Common.{◌≡◌, ◌⊎◌, ℕ, suc, ◌-◌, ◌^◌, ◌<◌, Bool, true, false, cond, eqb, List, [], ◌∷◌, length, Option, Some, None, Ok, Err, refl, sym, ap, ◌∙◌, arith, inl, inr}
use Rattle.std.specs.Result.{result_ok}
use Rattle.std.specs.Int.{w16, w32, w64}
use Rattle.gs1_keys.specs.Keys.{is_between, gtin_of, sscc_of, text_of}
use Rattle.epc_urn.specs.declared.epc.Epc.TheVariants as epc
use Rattle.deed_words.specs.declared.words.Level.TheVariants as level
use Rattle.deed_words.specs.declared.deed.Deed.TheVariants as deed
use Rattle.entry_bytes.specs.declared.fault.Stop.{Stop}
use Rattle.entry_bytes.specs.declared.fault.Stop.TheVariants.{Short, BadTag, BadField}
use Rattle.entry_bytes.specs.declared.kind.DeedKind.{DeedKind}
use Rattle.entry_bytes.specs.declared.kind.DeedKind.TheVariants as kind
use Rattle.entry_bytes.specs.declared.version.Version.{Version}
use Rattle.entry_bytes.specs.declared.version.Version.TheVariants.{First, Second}
use Rattle.entry_bytes.specs.Reading.{◌>>=◌, Reader, one, two, many, byte_at, number_at, ranged}
use Rattle.entry_bytes.specs.Fields.{pair, expiry_of, characters_at, text_at, gtin_at, sscc_at, expiry_at, operator_at, level_at, epc_at, make_code, code_at, make_row, quantity_at, case_size_at, pallet_size_at, row_at}
use Rattle.entry_bytes.specs.Deeds.{rows_at, codes_at, serials_at, epcs_at, drawn_at, kind_of, fields_at, fields_if, deed_at, make_entry, stamp_at, entry_at, group_at}
use Rattle.entry_bytes.proofs.Full.{IsWithin}
use Rattle.entry_bytes.proofs.Codec.{IsBytes, IsBytes-rest, Codec, byte_codec, number16, number32, number64, ranged_codec}
use Rattle.entry_bytes.proofs.Spelled.{gtin_codec, sscc_codec, expiry_codec, text_codec, operator_codec, epc_codec, code_codec, row_codec, quantity_codec, case_size_codec, deed_codec, stamp_codec, entry_codec}
use Rattle.entry_bytes.proofs.Stops.{left_of, bind_err, done, StopsAt, Stops, Field, field_stops, bind_stops, one_stops, two_stops, many_stops, byte_field, number_field, tested_field, ranged_field, cut_told, fixed_field}

-- ---- fields of entries

word16 : Field (number_at w16)
word16 = number_field w16 refl

word32 : Field (number_at w32)
word32 = number_field w32 refl

word64 : Field (number_at w64)
word64 = number_field w64 refl

pub gtin_field : Field gtin_at
unfolding gtin_at
gtin_field = fixed_field (λ x. result_ok (gtin_of x)) 14 refl

sscc_field : Field sscc_at
unfolding sscc_at
sscc_field = fixed_field (λ x. result_ok (sscc_of x)) 18 refl

expiry_field : Field expiry_at
unfolding expiry_at
expiry_field = fixed_field expiry_of 6 refl

pub text_field : Field text_at
unfolding text_at characters_at
text_field = tested_field {read = ranged 1 20 byte_at} (λ bytes n. characters_at (length bytes) n.0 n.1) (ranged_field 1 20 byte_field) (λ bytes n e h. cut_told (λ x. result_ok (text_of x)) (length bytes) n.0 n.1 e h)

quantity_field : Field quantity_at
unfolding quantity_at
quantity_field = ranged_field 1 1000000 word32

case_size_field : Field case_size_at
unfolding case_size_at
case_size_field = ranged_field 1 1000 word16

pallet_size_field : Field pallet_size_at
unfolding pallet_size_at
pallet_size_field = ranged_field 0 1000 word16

stamp_field : Field stamp_at
unfolding stamp_at
stamp_field = ranged_field 0 253402300799999 word64

level_stops : Stops level_at
unfolding level_at
level_stops = one_stops (λ (k : ℕ). cond (eqb k 1) level.Case level.Pallet) (field_stops (ranged_field 1 2 byte_field))

one_kind : Codec (λ (b : ℕ). b ∷ []) (IsWithin 1 2) (ranged 1 2 byte_at)
one_kind = ranged_codec 1 2 (λ n le. omega arith) byte_codec

epc_stops : Stops epc_at
unfolding epc_at
epc_stops = bind_stops (λ k bytes. cond (eqb k 1) (two epc.Item gtin_at text_at bytes) (one epc.Unit sscc_at bytes)) one_kind (field_stops (ranged_field 1 2 byte_field)) (λ k. by (eqb k 1))
  where
    by : (b : Bool) → Stops (λ bytes. cond b (two epc.Item gtin_at text_at bytes) (one epc.Unit sscc_at bytes))
    by true = two_stops epc.Item gtin_codec (field_stops gtin_field) (field_stops text_field)
    by false = one_stops epc.Unit (field_stops sscc_field)

code_stops : Stops code_at
unfolding code_at
code_stops = two_stops make_code gtin_codec (field_stops gtin_field) (two_stops pair text_codec (field_stops text_field) (two_stops pair text_codec (field_stops text_field) (field_stops expiry_field)))

row_stops : Stops row_at
unfolding row_at
row_stops = two_stops make_row text_codec (field_stops text_field) (two_stops pair gtin_codec (field_stops gtin_field) (two_stops pair text_codec (field_stops text_field) (two_stops pair expiry_codec (field_stops expiry_field)
    (two_stops pair quantity_codec (field_stops quantity_field) (two_stops pair case_size_codec (field_stops case_size_field) (field_stops pallet_size_field))))))

named_told : (left n : ℕ) (rest : List ℕ) (e : Stop) → one Some (characters_at left n) rest ≡ Err e → left_of e ≡ left
unfolding characters_at
named_told left n rest e h = by (bind_err (characters_at left n rest) (λ y. Ok (Some y.0, y.1)) e h)
  where
    by : (characters_at left n rest ≡ Err e) ⊎ ((y : List ℕ × List ℕ) × (characters_at left n rest ≡ Ok y) × ((let read : Option (List ℕ) × List ℕ = (Some y.0, y.1) in done read) ≡ Err e)) → left_of e ≡ left
    by (inl d) = cut_told (λ x. result_ok (text_of x)) left n rest e d
    by (inr o) = absurd (let no_way = o.2 in cc)

operator_stops : (version : Version) → Stops (operator_at version)
unfolding operator_at characters_at
operator_stops First bytes e fits h = absurd cc
operator_stops Second bytes e fits h = field_stops (tested_field {read = ranged 0 20 byte_at} (λ bytes n. cond (eqb n.0 0) (Ok (None, n.1)) (one Some (characters_at (length bytes) n.0) n.1)) (ranged_field 0 20 byte_field) told) bytes e fits h
  where
    told : (bytes : List ℕ) (n : ℕ × List ℕ) (e : Stop) → cond (eqb n.0 0) (Ok (None, n.1)) (one Some (characters_at (length bytes) n.0) n.1) ≡ Err e → left_of e ≡ length bytes
    told bytes n e h = by (eqb n.0 0) h
      where
        by : (b : Bool) → cond b (Ok (None, n.1)) (one Some (characters_at (length bytes) n.0) n.1) ≡ Err e → left_of e ≡ length bytes
        by true h = absurd cc
        by false h = named_told (length bytes) n.0 n.1 e h

-- ---- lists

listed_stops : {X : Type 0} {p : X → List ℕ} {F : X → Type 0} {r : Reader X} (most : ℕ) → most < 2 ^ 16 → Codec p F r → Stops r → Stops (λ bytes. ranged 0 most (number_at w16) bytes >>= λ n. many r n.0 n.1)
listed_stops {X} {p} {F} {r} most small codec item = bind_stops (λ n. many r n) (ranged_codec 0 most (λ n le. omega arith) number16) (field_stops (ranged_field 0 most word16)) (λ n. many_stops codec item n)

rows_stops : Stops rows_at
unfolding rows_at
rows_stops = listed_stops 1000 (omega arith) row_codec row_stops

codes_stops : Stops codes_at
unfolding codes_at
codes_stops = listed_stops 1000 (omega arith) code_codec code_stops

serials_stops : Stops serials_at
unfolding serials_at
serials_stops = listed_stops 1000 (omega arith) text_codec (field_stops text_field)

epcs_stops : Stops epcs_at
unfolding epcs_at
epcs_stops = listed_stops 1000 (omega arith) epc_codec epc_stops

drawn_stops : Stops drawn_at
unfolding drawn_at
drawn_stops = listed_stops 10000 (omega arith) text_codec (field_stops text_field)

-- ---- deeds

text_stops : Stops text_at
text_stops = field_stops text_field

sscc_stops : Stops sscc_at
sscc_stops = field_stops sscc_field

count_stops : Stops (number_at w32)
count_stops = field_stops word32

fields_stops : (k : DeedKind) → Stops (fields_at k)
unfolding fields_at
fields_stops kind.Order = one_stops deed.Order row_stops
fields_stops kind.Orders = one_stops deed.Orders rows_stops
fields_stops kind.Start = one_stops deed.Start text_stops
fields_stops kind.Draw = two_stops deed.Draw text_codec text_stops count_stops
fields_stops kind.Lend = two_stops deed.Lend text_codec text_stops count_stops
fields_stops kind.Commission = two_stops deed.Commission text_codec text_stops codes_stops
fields_stops kind.Spoil = two_stops deed.Spoil text_codec text_stops serials_stops
fields_stops kind.Giveback = two_stops deed.Giveback text_codec text_stops serials_stops
fields_stops kind.Sample = two_stops deed.Sample text_codec text_stops epcs_stops
fields_stops kind.Reject = two_stops deed.Reject text_codec text_stops epcs_stops
fields_stops kind.Reinstate = two_stops deed.Reinstate text_codec text_stops epcs_stops
fields_stops kind.Destroy = two_stops deed.Destroy text_codec text_stops epcs_stops
fields_stops kind.Decommission = two_stops deed.Decommission text_codec text_stops epcs_stops
fields_stops kind.Container = two_stops deed.Container text_codec text_stops level_stops
fields_stops kind.Pack = two_stops deed.Pack sscc_codec sscc_stops epcs_stops
fields_stops kind.Unpack = two_stops deed.Unpack sscc_codec sscc_stops epcs_stops
fields_stops kind.UnpackAll = one_stops deed.UnpackAll sscc_stops
fields_stops kind.Seal = one_stops deed.Seal sscc_stops
fields_stops kind.Unseal = one_stops deed.Unseal sscc_stops
fields_stops kind.Void = one_stops deed.Void sscc_stops
fields_stops kind.Declare = two_stops (λ batch numbers. deed.Declare batch numbers.0 numbers.1.0 numbers.1.1) text_codec text_stops (two_stops pair number32 count_stops (two_stops pair number32 count_stops count_stops))
fields_stops kind.Close = one_stops deed.Close text_stops
fields_stops kind.Amend = two_stops deed.Amend text_codec text_stops (field_stops quantity_field)

behind_tag : (tag : ℕ) (rest : List ℕ) (o : Option DeedKind) (e : Stop) → IsBytes rest → kind_of tag ≡ o → fields_if (suc (length rest)) o rest ≡ Err e → StopsAt deed_at (tag ∷ rest) e
unfolding deed_at
behind_tag tag rest None e fits is h = record { front = []; back = tag ∷ rest; parts = refl; left = (let s : BadTag (suc (length rest)) ≡ e = cc in ap left_of (sym s)); next = refl }
behind_tag tag rest (Some k) e fits is h =
    let here = fields_stops k rest e fits h in
    record {
      front = tag ∷ here.front;
      back = here.back;
      parts = ap (λ (w : List ℕ). tag ∷ w) here.parts;
      left = here.left;
      next = ap (λ (o : Option DeedKind). fields_if (suc (length here.front)) o here.front) is ∙ here.next;
    }

deed_stops : Stops deed_at
unfolding deed_at
deed_stops [] e fits h = record { front = []; back = []; parts = refl; left = (let s : Short 0 ≡ e = cc in ap left_of (sym s)); next = refl }
deed_stops (tag ∷ rest) e fits h = behind_tag tag rest (kind_of tag) e (IsBytes-rest tag rest fits) refl h

-- ---- entries and groups

entry_stops : (version : Version) → Stops (entry_at version)
unfolding entry_at
entry_stops version = two_stops make_entry byte_codec (field_stops byte_field) (two_stops pair number64 (field_stops word64) (two_stops pair byte_codec (field_stops byte_field)
    (two_stops pair stamp_codec (field_stops stamp_field) (two_stops pair (operator_codec version) (operator_stops version) (two_stops pair deed_codec deed_stops drawn_stops)))))

-- behind a count byte
entries_behind : (version : Version) (b n : ℕ) (rest : List ℕ) (e : Stop) → IsBytes rest → ((more : List ℕ) → group_at (b ∷ more) ≡ many (entry_at version) n more) → many (entry_at version) n rest ≡ Err e → StopsAt group_at (b ∷ rest) e
entries_behind version b n rest e fits is h =
    let here = many_stops (entry_codec version) (entry_stops version) n rest e fits h in
    record {
      front = b ∷ here.front;
      back = here.back;
      parts = ap (λ (w : List ℕ). b ∷ w) here.parts;
      left = here.left;
      next = is here.front ∙ here.next;
    }

second_group : (b : ℕ) → is_between 129 144 b ≡ true → (more : List ℕ) → group_at (b ∷ more) ≡ many (entry_at Second) (b - 128) more
unfolding group_at
second_group b h more = rw h refl

first_group : (b : ℕ) → is_between 129 144 b ≡ false → is_between 1 16 b ≡ true → (more : List ℕ) → group_at (b ∷ more) ≡ many (entry_at First) b more
unfolding group_at
first_group b h k more = rw (h, k) refl

no_group : (b : ℕ) (rest : List ℕ) (e : Stop) → is_between 129 144 b ≡ false → is_between 1 16 b ≡ false → group_at (b ∷ rest) ≡ Err e → StopsAt group_at (b ∷ rest) e
unfolding group_at
no_group b rest e h k g =
    let read : group_at (b ∷ rest) ≡ Err (BadField (suc (length rest))) = rw (h, k) refl in
    let same : BadField (suc (length rest)) ≡ e = cc in
    record { front = []; back = b ∷ rest; parts = refl; left = ap left_of (sym same); next = refl }

pub group_stops : Stops group_at
unfolding group_at
group_stops [] e fits h = record { front = []; back = []; parts = refl; left = (let s : Short 0 ≡ e = cc in ap left_of (sym s)); next = refl }
group_stops (b ∷ rest) e fits h = by (is_between 129 144 b) refl
  where
    older : (t : Bool) → is_between 1 16 b ≡ t → is_between 129 144 b ≡ false → StopsAt group_at (b ∷ rest) e
    older true k n = entries_behind First b b rest e (IsBytes-rest b rest fits) (first_group b n k) (sym (first_group b n k rest) ∙ h)
    older false k n = no_group b rest e n k h

    by : (t : Bool) → is_between 129 144 b ≡ t → StopsAt group_at (b ∷ rest) e
    by true k = entries_behind Second b (b - 128) rest e (IsBytes-rest b rest fits) (second_group b k) (sym (second_group b k rest) ∙ h)
    by false n = older (is_between 1 16 b) refl n
