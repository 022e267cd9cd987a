-- The fields of entries, the deeds and the entries: each has one spelling.
use Rattle.std.proofs.Common.{◌≡◌, ◌⊎◌, ℕ, zero, suc, ◌^◌, ◌<◌, Bool, true, false, cond, eqb, List, ◌∷◌, ◌++◌, length, take, drop, Option, Some, None, Ok, refl, sym, ap, subst, ◌∙◌, arith, inl, inr}
use Rattle.std.specs.Prelude.{◌&&◌, ◌==◌, is_none}
use Rattle.std.specs.Result.{result_ok}
use Rattle.std.specs.Int.{w16, w32, w64, to_be_bytes}
use Rattle.std.proofs.lemmas.Bool.{eqb-true, and_parts}
use Rattle.std.proofs.lemmas.Bool.Decides.{nat_tests}
use Rattle.std.proofs.lemmas.List.{take-append-drop}
use Rattle.gs1_keys.specs.Keys.{is_digit, first_other, gtin_of, sscc_of, text_of, IsGtin, IsSscc, IsText}
use Rattle.gs1_keys.proofs.Known.{gtin_same, gtin_length, sscc_same, text_same, text_length}
use Rattle.gs1_element.specs.Dates.{is_expiry, date_fault}
use Rattle.gs1_element.specs.declared.code.Code.{Code}
use Rattle.epc_urn.specs.declared.epc.Epc.{Epc}
use Rattle.epc_urn.specs.declared.epc.Epc.TheVariants as epc
use Rattle.deed_words.specs.declared.words.Level.{Level}
use Rattle.deed_words.specs.declared.words.Level.TheVariants as level
use Rattle.deed_words.specs.declared.deed.OrderRow.{OrderRow}
use Rattle.deed_words.specs.declared.deed.Deed.{Deed}
use Rattle.deed_words.specs.declared.deed.Deed.TheVariants as deed
use Rattle.deed_words.specs.declared.entry.Entry.{Entry}
use Rattle.entry_bytes.specs.declared.kind.DeedKind.{DeedKind}
use Rattle.entry_bytes.specs.declared.kind.DeedKind.TheVariants as kind
use Rattle.entry_bytes.specs.declared.version.Version.{Version}
use Rattle.entry_bytes.specs.declared.version.Version.TheVariants.{First, Second}
use Rattle.entry_bytes.specs.Reading.{one, two, byte_at, number_at, ranged}
use Rattle.entry_bytes.specs.Fields.{pair, expiry_of, characters_at, text_at, gtin_at, sscc_at, expiry_at, operator_at, level_at, epc_at, make_code, code_at, make_row, quantity_at, case_size_at, pallet_size_at, row_at}
use Rattle.entry_bytes.specs.Deeds.{rows_at, codes_at, serials_at, epcs_at, drawn_at, tag_of, kind_of, fields_at, fields_if, deed_at, make_entry, stamp_at, entry_at}
use Rattle.entry_bytes.specs.Spelling.{text_bytes, operator_in, level_bytes, epc_bytes, code_bytes, row_bytes, list_bytes, kind_in, numbers_bytes, fields_bytes, deed_bytes, head_bytes, entry_in}
use Rattle.entry_bytes.specs.Kept.{IsKeptEpc}
use Rattle.entry_bytes.proofs.Full.{IsWithin, IsList, IsExpiry, IsFullCode, IsFullRow, IsFullDeed, IsOperator, IsFull}
use Rattle.entry_bytes.proofs.Codec.{IsBytes, IsBytes-drop, Takes, Takes-then, bind_ok, done, ok_is, Codec, TakesBy, single, byte_codec, number16, number32, number64, ranged_codec, one_takes, two_takes, one_again, two_again, pair_codec, two_codec, listed_codec, cut_takes, cut_again, same, fixed_codec, ok_from}

-- ---- fields

pub gtin_codec : Codec same IsGtin gtin_at
unfolding gtin_at
gtin_codec = fixed_codec (λ x. result_ok (gtin_of x)) 14
    (λ x y len e. let h : gtin_of x ≡ Ok y = ok_from (gtin_of x) y e in let s : x ≡ y = gtin_same x y len h in (s, subst (λ w. gtin_of w ≡ Ok y) s h))
    (λ y h. (ap result_ok h, gtin_length y h))

pub sscc_codec : Codec same IsSscc sscc_at
unfolding sscc_at
sscc_codec = fixed_codec (λ x. result_ok (sscc_of x)) 18
    (λ x y len e. let h : sscc_of x ≡ Ok y = ok_from (sscc_of x) y e in let s : x ≡ y = (sscc_same x y h).0 in (s, subst (λ w. sscc_of w ≡ Ok y) s h))
    (λ y h. (ap result_ok h, (sscc_same y y h).1))

expiry_is : (x y : List ℕ) (b : Bool) → is_expiry x ≡ b → cond b (Some x) None ≡ Some y → (x ≡ y) × IsExpiry y
expiry_is x y true h e = let s : x ≡ y = cc in (s, subst IsExpiry s h)
expiry_is x y false h e = absurd cc

expiry_length : (y : List ℕ) → IsExpiry y → length y ≡ 6
unfolding is_expiry
expiry_length y h = eqb-true (length y) 6 (and_parts (length y == 6) (is_none (first_other is_digit 0 y)) (and_parts ((length y == 6) && is_none (first_other is_digit 0 y)) (is_none (date_fault y)) h).0).0

pub expiry_codec : Codec same IsExpiry expiry_at
unfolding expiry_at
expiry_codec = fixed_codec expiry_of 6 (λ x y len e. expiry_is x y (is_expiry x) refl e) (λ y h. (rw h refl, expiry_length y h))

characters_take : (left n : ℕ) (bytes : List ℕ) (x : List ℕ × List ℕ) → IsBytes bytes → characters_at left n bytes ≡ Ok x → Takes bytes x.0 x.1 × IsText x.0 × (n ≡ length x.0)
unfolding characters_at
characters_take left n bytes x fits e =
    let c = cut_takes (λ w. result_ok (text_of w)) left n bytes x e in
    let h : text_of (take n bytes) ≡ Ok x.0 = ok_from (text_of (take n bytes)) x.0 c.0 in
    let s : take n bytes ≡ x.0 = text_same (take n bytes) x.0 h in (
      record { parts = sym (take-append-drop n bytes) ∙ ap (λ (w : List ℕ). w ++ drop n bytes) s ∙ ap (λ (w : List ℕ). x.0 ++ w) c.1; rest_fits = subst IsBytes c.1 (IsBytes-drop n bytes fits) },
      subst (λ w. text_of w ≡ Ok x.0) s h,
      sym c.2 ∙ ap length s,
    )

characters_again : (left : ℕ) (y rest : List ℕ) → IsText y → characters_at left (length y) (y ++ rest) ≡ Ok (y, rest)
unfolding characters_at
characters_again left y rest h = cut_again (λ t. result_ok (text_of t)) left (length y) y rest refl (ap result_ok h)

text_takes : TakesBy text_bytes IsText text_at
unfolding text_at
text_takes bytes x fits e =
    let a = bind_ok (ranged 1 20 byte_at bytes) (λ n. characters_at (length bytes) n.0 n.1) x e in
    let t = (ranged_codec 1 20 (λ n le. omega arith) byte_codec).takes bytes a.0 fits a.1 in
    let c = characters_take (length bytes) a.0.0 a.0.1 x t.0.rest_fits a.2 in
    (subst (λ (n : ℕ). Takes bytes (n ∷ x.0) x.1) c.2 (Takes-then bytes (single a.0.0) a.0.1 x.0 x.1 t.0 c.0), c.1)

text_again : (y rest : List ℕ) → IsText y → text_at (text_bytes y ++ rest) ≡ Ok (y, rest)
unfolding text_at
text_again y rest h =
    let counted = (ranged_codec 1 20 (λ n le. omega arith) byte_codec).again (length y) (y ++ rest) (text_length y h) in
    rw counted (characters_again (length (text_bytes y ++ rest)) y rest h)

pub text_codec : Codec text_bytes IsText text_at
text_codec = record { takes = text_takes; again = text_again }

-- ---- operators

byte20 : Codec single (IsWithin 0 20) (ranged 0 20 byte_at)
byte20 = ranged_codec 0 20 (λ n le. omega arith) byte_codec

named_takes : (bytes : List ℕ) (n : ℕ) (after : List ℕ) (x : Option (List ℕ) × List ℕ) → Takes bytes (single n) after → one Some (characters_at (length bytes) n) after ≡ Ok x → Takes bytes (operator_in Second x.0) x.1 × IsOperator Second x.0
named_takes bytes n after x t e =
    let a = bind_ok (characters_at (length bytes) n after) (λ y. Ok (Some y.0, y.1)) x e in
    let c = characters_take (length bytes) n after a.0 t.rest_fits a.1 in
    let made : Option (List ℕ) × List ℕ = (Some a.0.0, a.0.1) in
    subst (λ (y : Option (List ℕ) × List ℕ). Takes bytes (operator_in Second y.0) y.1 × IsOperator Second y.0) (ok_is made x a.2) (subst (λ (k : ℕ). Takes bytes (k ∷ a.0.0) a.0.1) c.2 (Takes-then bytes (single n) after a.0.0 a.0.1 t c.0), c.1)

none_takes : (bytes after : List ℕ) (x : Option (List ℕ) × List ℕ) → Takes bytes (single 0) after → (let made : Option (List ℕ) × List ℕ = (None, after) in done made ≡ Ok x) → Takes bytes (operator_in Second x.0) x.1 × IsOperator Second x.0
none_takes bytes after x t e =
    let made : Option (List ℕ) × List ℕ = (None, after) in
    subst (λ (y : Option (List ℕ) × List ℕ). Takes bytes (operator_in Second y.0) y.1 × IsOperator Second y.0) (ok_is made x e) (t, tt)

operator_after : (bytes : List ℕ) (n : ℕ) (after : List ℕ) (x : Option (List ℕ) × List ℕ) → Takes bytes (single n) after → cond (eqb n 0) (Ok (None, after)) (one Some (characters_at (length bytes) n) after) ≡ Ok x → Takes bytes (operator_in Second x.0) x.1 × IsOperator Second x.0
operator_after bytes n after x t e = by (eqb n 0) refl e
  where
    by : (b : Bool) → eqb n 0 ≡ b → cond b (Ok (None, after)) (one Some (characters_at (length bytes) n) after) ≡ Ok x → Takes bytes (operator_in Second x.0) x.1 × IsOperator Second x.0
    by true h e = let zero_is : n ≡ 0 = eqb-true n 0 h in none_takes bytes after x (subst (λ (k : ℕ). Takes bytes (single k) after) zero_is t) e
    by false h e = named_takes bytes n after x t e

operator_takes : (version : Version) → TakesBy (operator_in version) (IsOperator version) (operator_at version)
unfolding operator_at
operator_takes First bytes x fits e =
    let made : Option (List ℕ) × List ℕ = (None, bytes) in
    subst (λ (y : Option (List ℕ) × List ℕ). Takes bytes (operator_in First y.0) y.1 × IsOperator First y.0) (ok_is made x e) (record { parts = refl; rest_fits = fits }, refl)
operator_takes Second bytes x fits e =
    let a = bind_ok (ranged 0 20 byte_at bytes) (λ n. cond (eqb n.0 0) (Ok (None, n.1)) (one Some (characters_at (length bytes) n.0) n.1)) x e in
    operator_after bytes a.0.0 a.0.1 x (byte20.takes bytes a.0 fits a.1).0 a.2

operator_again : (version : Version) (o : Option (List ℕ)) (rest : List ℕ) → IsOperator version o → operator_at version (operator_in version o ++ rest) ≡ Ok (o, rest)
unfolding operator_at
operator_again First o rest h = ap (λ (p : Option (List ℕ)). Ok (p, rest)) (sym h)
operator_again Second None rest h = refl
operator_again Second (Some name) rest h =
    let size = text_length name h in
    let counted = byte20.again (length name) (name ++ rest) (omega arith, size.1) in
    let some : eqb (length name) 0 ≡ false = grind (arith, nat_tests) in
    rw (counted, some, characters_again (length (text_bytes name ++ rest)) name rest h) refl

pub operator_codec : (version : Version) → Codec (operator_in version) (IsOperator version) (operator_at version)
operator_codec version = record { takes = operator_takes version; again = operator_again version }

byte12 : Codec single (IsWithin 1 2) (ranged 1 2 byte_at)
byte12 = ranged_codec 1 2 (λ n le. omega arith) byte_codec

one_or_two : (n : ℕ) → IsWithin 1 2 n → ((n ≡ 1) ⊎ (n ≡ 2))
one_or_two zero h = absurd (omega (arith, h.0))
one_or_two (suc zero) h = inl refl
one_or_two (suc (suc zero)) h = inr refl
one_or_two (suc (suc (suc n))) h = absurd (omega (arith, h.1))

level_takes : TakesBy level_bytes (λ l. Unit {0}) level_at
unfolding level_at
level_takes bytes x fits e =
    let a = bind_ok (ranged 1 2 byte_at bytes) (λ k. Ok (cond (eqb k.0 1) level.Case level.Pallet, k.1)) x e in
    let t = byte12.takes bytes a.0 fits a.1 in
    let by : (k : ℕ) → ((k ≡ 1) ⊎ (k ≡ 2)) → single k ≡ level_bytes (cond (eqb k 1) level.Case level.Pallet) = λ k o. elim o as (λ _. single k ≡ level_bytes (cond (eqb k 1) level.Case level.Pallet)) [ inl h ↦ rw h refl | inr h ↦ rw h refl ] in
    let made : Level × List ℕ = (cond (eqb a.0.0 1) level.Case level.Pallet, a.0.1) in
    (subst (λ (y : Level × List ℕ). Takes bytes (level_bytes y.0) y.1) (ok_is made x a.2) (subst (λ w. Takes bytes w a.0.1) (by a.0.0 (one_or_two a.0.0 t.1)) t.0), tt)

level_again : (l : Level) (rest : List ℕ) → Unit {0} → level_at (level_bytes l ++ rest) ≡ Ok (l, rest)
unfolding level_at
level_again level.Case rest h = refl
level_again level.Pallet rest h = refl

pub level_codec : Codec level_bytes (λ l. Unit {0}) level_at
level_codec = record { takes = level_takes; again = level_again }

prepend : (k : ℕ) (a x b : List ℕ) → Takes a x b → Takes (k ∷ a) (k ∷ x) b
prepend k a x b t = record { parts = ap (λ (w : List ℕ). k ∷ w) t.parts; rest_fits = t.rest_fits }

epc_tail : Epc → List ℕ
epc_tail (epc.Item gtin serial) = gtin ++ text_bytes serial
epc_tail (epc.Unit sscc) = sscc

IsTail : ℕ → Epc → Type 0
IsTail k x = IsKeptEpc x × (k ∷ epc_tail x ≡ epc_bytes x)

finish : (k : ℕ) (after : List ℕ) (x : Epc × List ℕ) → Takes after (epc_tail x.0) x.1 × IsTail k x.0 → Takes (k ∷ after) (epc_bytes x.0) x.1 × IsKeptEpc x.0
unfolding IsTail
finish k after x t = (subst (λ w. Takes (k ∷ after) w x.1) t.1.1 (prepend k after (epc_tail x.0) x.1 t.0), t.1.0)

epc_after : (k : ℕ) (after : List ℕ) (x : Epc × List ℕ) → IsBytes after → IsWithin 1 2 k → cond (eqb k 1) (two epc.Item gtin_at text_at after) (one epc.Unit sscc_at after) ≡ Ok x → Takes (k ∷ after) (epc_bytes x.0) x.1 × IsKeptEpc x.0
unfolding epc_tail IsTail
epc_after zero after x fits w e = absurd (omega (arith, w.0))
epc_after (suc zero) after x fits w e = finish 1 after x (two_takes epc.Item epc_tail (IsTail 1) gtin_codec text_codec (λ g s. refl) (λ g s f h. ((f, h), refl)) after x fits e)
epc_after (suc (suc zero)) after x fits w e = finish 2 after x (one_takes epc.Unit epc_tail (IsTail 2) sscc_codec (λ s. refl) (λ s f. (f, refl)) after x fits e)
epc_after (suc (suc (suc n))) after x fits w e = absurd (omega (arith, w.1))

epc_takes : TakesBy epc_bytes IsKeptEpc epc_at
unfolding epc_at
epc_takes bytes x fits e =
    let a = bind_ok (ranged 1 2 byte_at bytes) (λ k. cond (eqb k.0 1) (two epc.Item gtin_at text_at k.1) (one epc.Unit sscc_at k.1)) x e in
    let t = byte12.takes bytes a.0 fits a.1 in
    let u = epc_after a.0.0 a.0.1 x t.0.rest_fits t.1 a.2 in
    (record { parts = t.0.parts ∙ u.0.parts; rest_fits = u.0.rest_fits }, u.1)

epc_again : (x : Epc) (rest : List ℕ) → IsKeptEpc x → epc_at (epc_bytes x ++ rest) ≡ Ok (x, rest)
unfolding epc_at
epc_again (epc.Item gtin serial) rest h = two_again epc.Item gtin_codec text_codec gtin serial rest h.0 h.1
epc_again (epc.Unit sscc) rest h = one_again epc.Unit sscc_codec sscc rest h

pub epc_codec : Codec epc_bytes IsKeptEpc epc_at
epc_codec = record { takes = epc_takes; again = epc_again }

pub code_codec : Codec code_bytes IsFullCode code_at
unfolding code_at
code_codec = two_codec make_code (λ (c : Code). c.gtin) (λ (c : Code). (c.serial, (c.lot, c.expiry))) (λ c. refl) (λ x y. refl) (λ x y. refl) gtin_codec (pair_codec text_codec (pair_codec text_codec expiry_codec))

pub quantity_codec : Codec (to_be_bytes w32) (IsWithin 1 1000000) quantity_at
unfolding quantity_at
quantity_codec = ranged_codec 1 1000000 (λ n le. omega arith) number32

pub case_size_codec : Codec (to_be_bytes w16) (IsWithin 1 1000) case_size_at
unfolding case_size_at
case_size_codec = ranged_codec 1 1000 (λ n le. omega arith) number16

pallet_size_codec : Codec (to_be_bytes w16) (IsWithin 0 1000) pallet_size_at
unfolding pallet_size_at
pallet_size_codec = ranged_codec 0 1000 (λ n le. omega arith) number16

pub row_codec : Codec row_bytes IsFullRow row_at
unfolding row_at
row_codec = two_codec make_row (λ (r : OrderRow). r.batch) (λ (r : OrderRow). (r.gtin, (r.lot, (r.expiry, (r.quantity, (r.case_size, r.pallet_size)))))) (λ r. refl) (λ x y. refl) (λ x y. refl)
    text_codec (pair_codec gtin_codec (pair_codec text_codec (pair_codec expiry_codec (pair_codec quantity_codec (pair_codec case_size_codec pallet_size_codec)))))

-- ---- lists

pub rows_codec : Codec (list_bytes row_bytes) (IsList 1000 IsFullRow) rows_at
unfolding rows_at
rows_codec = listed_codec 1000 (omega arith) row_codec

pub codes_codec : Codec (list_bytes code_bytes) (IsList 1000 IsFullCode) codes_at
unfolding codes_at
codes_codec = listed_codec 1000 (omega arith) code_codec

pub serials_codec : Codec (list_bytes text_bytes) (IsList 1000 IsText) serials_at
unfolding serials_at
serials_codec = listed_codec 1000 (omega arith) text_codec

pub epcs_codec : Codec (list_bytes epc_bytes) (IsList 1000 IsKeptEpc) epcs_at
unfolding epcs_at
epcs_codec = listed_codec 1000 (omega arith) epc_codec

pub drawn_codec : Codec (list_bytes text_bytes) (IsList 10000 IsText) drawn_at
unfolding drawn_at
drawn_codec = listed_codec 10000 (omega arith) text_codec

-- ---- deeds

abbrev pub IsOf : DeedKind → Deed → Type 0
IsOf k d = IsFullDeed d × (kind_in d ≡ k)

numbers : Codec (λ (n : ℕ × (ℕ × ℕ)). numbers_bytes n.0 n.1.0 n.1.1) (λ (n : ℕ × (ℕ × ℕ)). (n.0 < 2 ^ 32) × ((n.1.0 < 2 ^ 32) × (n.1.1 < 2 ^ 32))) (two pair (number_at w32) (two pair (number_at w32) (number_at w32)))
unfolding numbers_bytes
numbers = pair_codec number32 (pair_codec number32 number32)

make_declare : List ℕ → ℕ × (ℕ × ℕ) → Deed
make_declare batch n = deed.Declare batch n.0 n.1.0 n.1.1

fields_takes : (k : DeedKind) → TakesBy fields_bytes (IsOf k) (fields_at k)
unfolding fields_at make_declare
fields_takes kind.Order = one_takes deed.Order fields_bytes (IsOf kind.Order) row_codec (λ x. refl) (λ x f. (f, refl))
fields_takes kind.Orders = one_takes deed.Orders fields_bytes (IsOf kind.Orders) rows_codec (λ x. refl) (λ x f. (f, refl))
fields_takes kind.Start = one_takes deed.Start fields_bytes (IsOf kind.Start) text_codec (λ x. refl) (λ x f. (f, refl))
fields_takes kind.Draw = two_takes deed.Draw fields_bytes (IsOf kind.Draw) text_codec number32 (λ x y. refl) (λ x y f g. ((f, g), refl))
fields_takes kind.Lend = two_takes deed.Lend fields_bytes (IsOf kind.Lend) text_codec number32 (λ x y. refl) (λ x y f g. ((f, g), refl))
fields_takes kind.Commission = two_takes deed.Commission fields_bytes (IsOf kind.Commission) text_codec codes_codec (λ x y. refl) (λ x y f g. ((f, g), refl))
fields_takes kind.Spoil = two_takes deed.Spoil fields_bytes (IsOf kind.Spoil) text_codec serials_codec (λ x y. refl) (λ x y f g. ((f, g), refl))
fields_takes kind.Giveback = two_takes deed.Giveback fields_bytes (IsOf kind.Giveback) text_codec serials_codec (λ x y. refl) (λ x y f g. ((f, g), refl))
fields_takes kind.Sample = two_takes deed.Sample fields_bytes (IsOf kind.Sample) text_codec epcs_codec (λ x y. refl) (λ x y f g. ((f, g), refl))
fields_takes kind.Reject = two_takes deed.Reject fields_bytes (IsOf kind.Reject) text_codec epcs_codec (λ x y. refl) (λ x y f g. ((f, g), refl))
fields_takes kind.Reinstate = two_takes deed.Reinstate fields_bytes (IsOf kind.Reinstate) text_codec epcs_codec (λ x y. refl) (λ x y f g. ((f, g), refl))
fields_takes kind.Destroy = two_takes deed.Destroy fields_bytes (IsOf kind.Destroy) text_codec epcs_codec (λ x y. refl) (λ x y f g. ((f, g), refl))
fields_takes kind.Decommission = two_takes deed.Decommission fields_bytes (IsOf kind.Decommission) text_codec epcs_codec (λ x y. refl) (λ x y f g. ((f, g), refl))
fields_takes kind.Container = two_takes deed.Container fields_bytes (IsOf kind.Container) text_codec level_codec (λ x y. refl) (λ x y f g. ((f, g), refl))
fields_takes kind.Pack = two_takes deed.Pack fields_bytes (IsOf kind.Pack) sscc_codec epcs_codec (λ x y. refl) (λ x y f g. ((f, g), refl))
fields_takes kind.Unpack = two_takes deed.Unpack fields_bytes (IsOf kind.Unpack) sscc_codec epcs_codec (λ x y. refl) (λ x y f g. ((f, g), refl))
fields_takes kind.UnpackAll = one_takes deed.UnpackAll fields_bytes (IsOf kind.UnpackAll) sscc_codec (λ x. refl) (λ x f. (f, refl))
fields_takes kind.Seal = one_takes deed.Seal fields_bytes (IsOf kind.Seal) sscc_codec (λ x. refl) (λ x f. (f, refl))
fields_takes kind.Unseal = one_takes deed.Unseal fields_bytes (IsOf kind.Unseal) sscc_codec (λ x. refl) (λ x f. (f, refl))
fields_takes kind.Void = one_takes deed.Void fields_bytes (IsOf kind.Void) sscc_codec (λ x. refl) (λ x f. (f, refl))
fields_takes kind.Declare = two_takes make_declare fields_bytes (IsOf kind.Declare) text_codec numbers (λ x y. refl) (λ x y f g. ((f, g), refl))
fields_takes kind.Close = one_takes deed.Close fields_bytes (IsOf kind.Close) text_codec (λ x. refl) (λ x f. (f, refl))
fields_takes kind.Amend = two_takes deed.Amend fields_bytes (IsOf kind.Amend) text_codec quantity_codec (λ x y. refl) (λ x y f g. ((f, g), refl))

fields_again : (d : Deed) (rest : List ℕ) → IsFullDeed d → fields_at (kind_in d) (fields_bytes d ++ rest) ≡ Ok (d, rest)
unfolding fields_at make_declare
fields_again (deed.Order a) rest h = one_again deed.Order row_codec a rest h
fields_again (deed.Orders a) rest h = one_again deed.Orders rows_codec a rest h
fields_again (deed.Start a) rest h = one_again deed.Start text_codec a rest h
fields_again (deed.Draw a b) rest h = two_again deed.Draw text_codec number32 a b rest h.0 h.1
fields_again (deed.Lend a b) rest h = two_again deed.Lend text_codec number32 a b rest h.0 h.1
fields_again (deed.Commission a b) rest h = two_again deed.Commission text_codec codes_codec a b rest h.0 h.1
fields_again (deed.Spoil a b) rest h = two_again deed.Spoil text_codec serials_codec a b rest h.0 h.1
fields_again (deed.Giveback a b) rest h = two_again deed.Giveback text_codec serials_codec a b rest h.0 h.1
fields_again (deed.Sample a b) rest h = two_again deed.Sample text_codec epcs_codec a b rest h.0 h.1
fields_again (deed.Reject a b) rest h = two_again deed.Reject text_codec epcs_codec a b rest h.0 h.1
fields_again (deed.Reinstate a b) rest h = two_again deed.Reinstate text_codec epcs_codec a b rest h.0 h.1
fields_again (deed.Destroy a b) rest h = two_again deed.Destroy text_codec epcs_codec a b rest h.0 h.1
fields_again (deed.Decommission a b) rest h = two_again deed.Decommission text_codec epcs_codec a b rest h.0 h.1
fields_again (deed.Container a b) rest h = two_again deed.Container text_codec level_codec a b rest h.0 h.1
fields_again (deed.Pack a b) rest h = two_again deed.Pack sscc_codec epcs_codec a b rest h.0 h.1
fields_again (deed.Unpack a b) rest h = two_again deed.Unpack sscc_codec epcs_codec a b rest h.0 h.1
fields_again (deed.UnpackAll a) rest h = one_again deed.UnpackAll sscc_codec a rest h
fields_again (deed.Seal a) rest h = one_again deed.Seal sscc_codec a rest h
fields_again (deed.Unseal a) rest h = one_again deed.Unseal sscc_codec a rest h
fields_again (deed.Void a) rest h = one_again deed.Void sscc_codec a rest h
fields_again (deed.Declare a b c d) rest h = two_again make_declare text_codec numbers a (b, (c, d)) rest h.0 h.1
fields_again (deed.Close a) rest h = one_again deed.Close text_codec a rest h
fields_again (deed.Amend a b) rest h = two_again deed.Amend text_codec quantity_codec a b rest h.0 h.1

-- the kind of a tag has this tag
tag_step : (tag n : ℕ) (k l : DeedKind) (others : Option DeedKind) → tag_of k ≡ n → (others ≡ Some l → tag_of l ≡ tag) → cond (eqb tag n) (Some k) others ≡ Some l → tag_of l ≡ tag
tag_step tag n k l others is f e = by (eqb tag n) refl e
  where
    by : (b : Bool) → eqb tag n ≡ b → cond b (Some k) others ≡ Some l → tag_of l ≡ tag
    by true h e = let s : k ≡ l = cc in ap tag_of (sym s) ∙ is ∙ sym (eqb-true tag n h)
    by false h e = f e

no_kind : (l : DeedKind) (P : Type 0) → None ≡ Some l → P
no_kind l P e = absurd cc

tag_is : (tag : ℕ) (l : DeedKind) → kind_of tag ≡ Some l → tag_of l ≡ tag
unfolding kind_of
tag_is tag l = tag_step tag 1 kind.Order l _ refl (tag_step tag 2 kind.Orders l _ refl (tag_step tag 3 kind.Start l _ refl (tag_step tag 4 kind.Draw l _ refl (tag_step tag 5 kind.Lend l _ refl (tag_step tag 6 kind.Commission l _ refl (tag_step tag 7 kind.Spoil l _ refl (tag_step tag 8 kind.Giveback l _ refl (tag_step tag 9 kind.Sample l _ refl (tag_step tag 10 kind.Reject l _ refl (tag_step tag 11 kind.Reinstate l _ refl (tag_step tag 12 kind.Destroy l _ refl (tag_step tag 13 kind.Decommission l _ refl (tag_step tag 14 kind.Container l _ refl (tag_step tag 15 kind.Pack l _ refl (tag_step tag 16 kind.Unpack l _ refl (tag_step tag 17 kind.UnpackAll l _ refl (tag_step tag 18 kind.Seal l _ refl (tag_step tag 19 kind.Unseal l _ refl (tag_step tag 20 kind.Void l _ refl (tag_step tag 21 kind.Declare l _ refl (tag_step tag 22 kind.Close l _ refl (tag_step tag 23 kind.Amend l _ refl (no_kind l (tag_of l ≡ tag))))))))))))))))))))))))

kind_is : (k : DeedKind) → kind_of (tag_of k) ≡ Some k
unfolding kind_of
kind_is kind.Order = refl
kind_is kind.Orders = refl
kind_is kind.Start = refl
kind_is kind.Draw = refl
kind_is kind.Lend = refl
kind_is kind.Commission = refl
kind_is kind.Spoil = refl
kind_is kind.Giveback = refl
kind_is kind.Sample = refl
kind_is kind.Reject = refl
kind_is kind.Reinstate = refl
kind_is kind.Destroy = refl
kind_is kind.Decommission = refl
kind_is kind.Container = refl
kind_is kind.Pack = refl
kind_is kind.Unpack = refl
kind_is kind.UnpackAll = refl
kind_is kind.Seal = refl
kind_is kind.Unseal = refl
kind_is kind.Void = refl
kind_is kind.Declare = refl
kind_is kind.Close = refl
kind_is kind.Amend = refl

by_kind : (left : ℕ) (o : Option DeedKind) (rest : List ℕ) (x : Deed × List ℕ) → fields_if left o rest ≡ Ok x → (k : DeedKind) × (o ≡ Some k) × (fields_at k rest ≡ Ok x)
by_kind left None rest x e = absurd cc
by_kind left (Some k) rest x e = (k, refl, e)

deed_takes : TakesBy deed_bytes IsFullDeed deed_at
unfolding deed_at deed_bytes
deed_takes bytes x fits e =
    let a = bind_ok (byte_at bytes) (λ tag. fields_if (length bytes) (kind_of tag.0) tag.1) x e in
    let t = byte_codec.takes bytes a.0 fits a.1 in
    let b = by_kind (length bytes) (kind_of a.0.0) a.0.1 x a.2 in
    let u = fields_takes b.0 a.0.1 x t.0.rest_fits b.2 in
    let tag : tag_of (kind_in x.0) ≡ a.0.0 = ap tag_of u.1.1 ∙ tag_is a.0.0 b.0 b.1 in
    (subst (λ (n : ℕ). Takes bytes (n ∷ fields_bytes x.0) x.1) (sym tag) (Takes-then bytes (single a.0.0) a.0.1 (fields_bytes x.0) x.1 t.0 u.0), u.1.0)

deed_again : (d : Deed) (rest : List ℕ) → IsFullDeed d → deed_at (deed_bytes d ++ rest) ≡ Ok (d, rest)
unfolding deed_at deed_bytes
deed_again d rest h = rw (kind_is (kind_in d)) (fields_again d rest h)

pub deed_codec : Codec deed_bytes IsFullDeed deed_at
deed_codec = record { takes = deed_takes; again = deed_again }

-- ---- entries

pub stamp_codec : Codec (to_be_bytes w64) (IsWithin 0 253402300799999) stamp_at
unfolding stamp_at
stamp_codec = ranged_codec 0 253402300799999 (λ n le. omega arith) number64

abbrev spelled : Version → Entry → List ℕ
spelled version e = single e.station ++ (to_be_bytes w64 e.number ++ (single e.worker ++ (to_be_bytes w64 e.stamp ++ (operator_in version e.operator ++ (deed_bytes e.deed ++ list_bytes text_bytes e.drawn)))))

spelled_codec : (version : Version) → Codec (spelled version) (IsFull version) (entry_at version)
unfolding entry_at
spelled_codec version = two_codec make_entry (λ (e : Entry). e.station) (λ (e : Entry). (e.number, (e.worker, (e.stamp, (e.operator, (e.deed, e.drawn)))))) (λ e. refl) (λ x y. refl) (λ x y. refl)
    byte_codec (pair_codec number64 (pair_codec byte_codec (pair_codec stamp_codec (pair_codec (operator_codec version) (pair_codec deed_codec drawn_codec)))))

same_spelling : (version : Version) (e : Entry) → spelled version e ≡ entry_in version e
unfolding head_bytes
same_spelling version e = refl

pub entry_codec : (version : Version) → Codec (entry_in version) (IsFull version) (entry_at version)
entry_codec version = record {
  takes = λ bytes x fits h. let t = (spelled_codec version).takes bytes x fits h in (subst (λ (w : List ℕ). Takes bytes w x.1) (same_spelling version x.0) t.0, t.1);
  again = λ e rest h. ap (λ (w : List ℕ). entry_at version (w ++ rest)) (sym (same_spelling version e)) ∙ (spelled_codec version).again e rest h;
}
