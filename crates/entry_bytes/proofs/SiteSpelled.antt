-- The fields of a site, and the site: each has one spelling.
use Rattle.std.proofs.Common.{◌≡◌, ℕ, zero, suc, ◌-◌, ◌^◌, ◌<◌, Bool, true, false, cond, eqb, ltb, List, [], ◌∷◌, ◌++◌, length, take, drop, Option, Some, None, Ok, Err, refl, sym, ap, subst, ◌∙◌, append_assoc, arith}
use Rattle.std.specs.Prelude.{nat_le}
use Rattle.std.specs.List.{flat_map, list_any}
use Rattle.std.specs.Result.{result_ok}
use Rattle.std.specs.Int.{w64, to_be_bytes}
use Rattle.std.proofs.lemmas.Bool.{eqb-true, ltb-true, le-leb, leb-true}
use Rattle.std.proofs.lemmas.Bool.Decides.{nat_tests}
use Rattle.std.proofs.lemmas.List.{take-append-drop}
use Rattle.gs1_keys.specs.Keys.{gln_of, prefix_of, IsGln, IsPrefix, IsGtin, IsText}
use Rattle.gs1_keys.specs.Forms.{longest}
use Rattle.gs1_keys.specs.declared.form.Alphabet.{Alphabet}
use Rattle.gs1_keys.specs.declared.form.Alphabet.TheVariants.{Digits, Base32}
use Rattle.gs1_keys.specs.declared.form.SerialForm.{SerialForm}
use Rattle.gs1_keys.proofs.Known.{gln_same, prefix_same, prefix_length}
use Rattle.deed_words.specs.Names.{same}
use Rattle.deed_words.specs.Setups.{Setup, begins_with, is_offset}
use Rattle.deed_words.specs.declared.setup.Product.{Product}
use Rattle.deed_words.specs.declared.setup.Station.{Station}
use Rattle.deed_words.specs.declared.words.Role.{Role}
use Rattle.deed_words.specs.declared.words.Role.TheVariants.{Planner, Line, Quality}
use Rattle.entry_bytes.specs.declared.fault.Stop.TheVariants.{BadField}
use Rattle.entry_bytes.specs.declared.version.Version.{Version}
use Rattle.entry_bytes.specs.declared.version.Version.TheVariants.{First, Second}
use Rattle.entry_bytes.specs.Reading.{◌>>=◌, Reader, two_after, many_after, byte_at, number_at, ranged, below, cut}
use Rattle.entry_bytes.specs.Fields.{pair}
use Rattle.entry_bytes.specs.Spelling.{text_bytes, list_bytes}
use Rattle.entry_bytes.specs.SiteFields.{gln_at, if_begins, prefix_for, prefix_at, extension_at, reference_at, offset_of, offset_at, make_form, serial_length_at, alphabet_at, form_at, prefix_length_at, new_gtin_at, make_product, product_at, products_at, new_name_at, role_of_byte, role_at, make_station, station_at, stations_at, make_setup, after_prefix, after_gln, parts_at}
use Rattle.entry_bytes.specs.Sites.{alphabet_byte, form_in, product_in, role_byte, station_bytes, stations_bytes, codes_bytes, parts_in}
use Rattle.entry_bytes.proofs.Full.{IsWithin}
use Rattle.entry_bytes.proofs.Codec.{IsBytes, IsBytes-drop, Takes, Takes-then, bind_ok, ok_is, Codec, TakesBy, single, byte_codec, number16, number64, ranged_codec, one_takes, one_again, pair_codec, two_codec, cut_takes, cut_again, same as itself, fixed_codec, ok_from}
use Rattle.entry_bytes.proofs.Spelled.{gtin_codec, text_codec}

-- ---- what depends on what came before

-- a field, and others that depend on it: what is made of them
pub after_codec : {X Y Z : Type 0} {p : X → List ℕ} {F : X → Type 0} {r : Reader X} {q : Y → List ℕ} (make : X → Y → Z) (first : Z → X) (others : Z → Y) → ((z : Z) → make (first z) (others z) ≡ z) → ((x : X) (y : Y) → first (make x y) ≡ x) → ((x : X) (y : Y) → others (make x y) ≡ y)
    → (G : X → Y → Type 0) (s : X → Reader Y) → Codec p F r → ((x : X) → F x → Codec q (G x) (s x)) → Codec (λ (z : Z). p (first z) ++ q (others z)) (λ (z : Z). F (first z) × G (first z) (others z)) (two_after make r s)
after_codec {X} {Y} {Z} {p} {F} {r} {q} make first others whole one_is two_is G s head tail = record {
  takes = λ bytes z fits is.
      let a = bind_ok (r bytes) (λ x. s x.0 x.1 >>= λ y. Ok (make x.0 y.0, y.1)) z is in
      let b = bind_ok (s a.0.0 a.0.1) (λ y. Ok (make a.0.0 y.0, y.1)) z a.2 in
      let t0 = head.takes bytes a.0 fits a.1 in
      let next = tail a.0.0 t0.1 in
      let t1 = next.takes a.0.1 b.0 t0.0.rest_fits b.1 in
      let both = Takes-then bytes (p a.0.0) a.0.1 (q b.0.0) b.0.1 t0.0 t1.0 in
      let made : Z × List ℕ = (make a.0.0 b.0.0, b.0.1) in
      let front = one_is a.0.0 b.0.0 in
      let back = two_is a.0.0 b.0.0 in
      subst (λ (y : Z × List ℕ). Takes bytes (p (first y.0) ++ q (others y.0)) y.1 × (F (first y.0) × G (first y.0) (others y.0))) (ok_is made z b.2) (rw (front, back) (both, (t0.1, t1.1)));
  again = λ z rest h.
      let next = tail (first z) h.0 in
      ap (two_after make r s) (append_assoc (p (first z)) (q (others z)) rest) ∙ rw (head.again (first z) (q (others z) ++ rest) h.0, next.again (others z) rest h.1) refl ∙ ap (λ (w : Z). Ok (w, rest)) (whole z);
}

-- each fits those before it
unfoldable pub AllAfter : {X : Type 0} → (List X → X → Type 0) → List X → List X → Type 0
AllAfter G before [] = Unit {0}
AllAfter G before (x ∷ xs) = G before x × AllAfter G (before ++ x ∷ []) xs

many_after_takes : {X : Type 0} {p : X → List ℕ} (G : List X → X → Type 0) (r : List X → Reader X) → ((before : List X) → Codec p (G before) (r before)) → (n : ℕ) (before : List X) (bytes : List ℕ) (x : List X × List ℕ) → IsBytes bytes → many_after r before n bytes ≡ Ok x → Takes bytes (flat_map p x.0) x.1 × (length x.0 ≡ n) × AllAfter G before x.0
unfolding many_after AllAfter
many_after_takes {X} {p} G r item zero before bytes x fits e =
    subst (λ (y : List X × List ℕ). Takes bytes (flat_map p y.0) y.1 × (length y.0 ≡ 0) × AllAfter G before y.0) (ok_is ([], bytes) x e) (record { parts = refl; rest_fits = fits }, refl, tt)
many_after_takes {X} {p} G r item (suc n) before bytes x fits e =
    let a = bind_ok (r before bytes) (λ first. many_after r (before ++ first.0 ∷ []) n first.1 >>= λ others. Ok (first.0 ∷ others.0, others.1)) x e in
    let b = bind_ok (many_after r (before ++ a.0.0 ∷ []) n a.0.1) (λ others. Ok (a.0.0 ∷ others.0, others.1)) x a.2 in
    let here = item before in
    let first = here.takes bytes a.0 fits a.1 in
    let second = many_after_takes {X = X} {p = p} G r item n (before ++ a.0.0 ∷ []) a.0.1 b.0 first.0.rest_fits b.1 in
    let both = Takes-then bytes (p a.0.0) a.0.1 (flat_map p b.0.0) b.0.1 first.0 second.0 in
    let made : List X × List ℕ = (a.0.0 ∷ b.0.0, b.0.1) in
    subst (λ (y : List X × List ℕ). Takes bytes (flat_map p y.0) y.1 × (length y.0 ≡ suc n) × AllAfter G before y.0) (ok_is made x b.2) (both, ap suc second.1, (first.1, second.2))

many_after_again : {X : Type 0} {p : X → List ℕ} (G : List X → X → Type 0) (r : List X → Reader X) → ((before : List X) → Codec p (G before) (r before)) → (before xs : List X) (rest : List ℕ) → AllAfter G before xs → many_after r before (length xs) (flat_map p xs ++ rest) ≡ Ok (xs, rest)
unfolding many_after AllAfter
many_after_again G r item before [] rest h = refl
many_after_again {X} {p} G r item before (x ∷ xs) rest h =
    let here = item before in
    ap (many_after r before (suc (length xs))) (append_assoc (p x) (flat_map p xs) rest) ∙ rw (here.again x (flat_map p xs ++ rest) h.0, many_after_again {X = X} {p = p} G r item (before ++ x ∷ []) xs rest h.1) refl

-- a list behind its number of items, each of which depends on those before it
pub counted_after : {X : Type 0} {count : ℕ → List ℕ} {number : Reader ℕ} {p : X → List ℕ} (low most : ℕ) (G : List X → X → Type 0) (r : List X → Reader X) → Codec count (IsWithin low most) number → ((before : List X) → Codec p (G before) (r before))
    → Codec (λ (xs : List X). count (length xs) ++ flat_map p xs) (λ (xs : List X). IsWithin low most (length xs) × AllAfter G [] xs) (λ bytes. number bytes >>= λ n. many_after r [] n.0 n.1)
counted_after {X} {count} {number} {p} low most G r counts item = record {
  takes = λ bytes x fits e.
      let a = bind_ok (number bytes) (λ n. many_after r [] n.0 n.1) x e in
      let t0 = counts.takes bytes a.0 fits a.1 in
      let t1 = many_after_takes {X = X} {p = p} G r item a.0.0 [] a.0.1 x t0.0.rest_fits a.2 in
      let both = Takes-then bytes (count a.0.0) a.0.1 (flat_map p x.0) x.1 t0.0 t1.0 in
      (subst (λ (n : ℕ). Takes bytes (count n ++ flat_map p x.0) x.1) (sym t1.1) both, (subst (λ (n : ℕ). IsWithin low most n) (sym t1.1) t0.1, t1.2));
  again = λ xs rest h. ap (λ bytes. number bytes >>= λ n. many_after r [] n.0 n.1) (append_assoc (count (length xs)) (flat_map p xs) rest) ∙ rw (counts.again (length xs) (flat_map p xs ++ rest) h.0) (many_after_again {X = X} {p = p} G r item [] xs rest h.1);
}

-- ---- the codes

pub gln_codec : Codec itself IsGln gln_at
unfolding gln_at
gln_codec = fixed_codec (λ x. result_ok (gln_of x)) 13
    (λ x y len e. let h : gln_of x ≡ Ok y = ok_from (gln_of x) y e in let s : x ≡ y = (gln_same x y h).0 in (s, subst (λ w. gln_of w ≡ Ok y) s h))
    (λ y h. (ap result_ok h, (gln_same y y h).1))

abbrev pub IsPrefixOf : List ℕ → List ℕ → Type 0
IsPrefixOf gln prefix = IsPrefix prefix × (begins_with prefix gln ≡ true)

begun : (gln : List ℕ) (o : Option (List ℕ)) (y : List ℕ) → if_begins gln o ≡ Some y → (o ≡ Some y) × (begins_with y gln ≡ true)
begun gln None y e = absurd cc
begun gln (Some x) y e = by (begins_with x gln) refl e
  where
    by : (b : Bool) → begins_with x gln ≡ b → cond b (Some x) None ≡ Some y → (Some x ≡ Some y) × (begins_with y gln ≡ true)
    by true h e = let s : x ≡ y = cc in (e, subst (λ (w : List ℕ). begins_with w gln ≡ true) s h)
    by false h e = absurd cc

six_to_twelve : Codec single (IsWithin 6 12) (ranged 6 12 byte_at)
six_to_twelve = ranged_codec 6 12 (λ n le. omega arith) byte_codec

prefix_takes : (gln : List ℕ) → TakesBy text_bytes (IsPrefixOf gln) (prefix_at gln)
unfolding prefix_at
prefix_takes gln bytes x fits e =
    let a = bind_ok (ranged 6 12 byte_at bytes) (λ n. cut (prefix_for gln) (length bytes) n.0 n.1) x e in
    let t = six_to_twelve.takes bytes a.0 fits a.1 in
    let c = cut_takes (prefix_for gln) (length bytes) a.0.0 a.0.1 x a.2 in
    let b = begun gln (result_ok (prefix_of (take a.0.0 a.0.1))) x.0 c.0 in
    let h : prefix_of (take a.0.0 a.0.1) ≡ Ok x.0 = ok_from (prefix_of (take a.0.0 a.0.1)) x.0 b.0 in
    let s : take a.0.0 a.0.1 ≡ x.0 = prefix_same (take a.0.0 a.0.1) x.0 h in
    let len : a.0.0 ≡ length x.0 = sym c.2 ∙ ap length s in
    let second : Takes a.0.1 x.0 x.1 = record { parts = sym (take-append-drop a.0.0 a.0.1) ∙ ap (λ (w : List ℕ). w ++ drop a.0.0 a.0.1) s ∙ ap (λ (w : List ℕ). x.0 ++ w) c.1; rest_fits = subst IsBytes c.1 (IsBytes-drop a.0.0 a.0.1 t.0.rest_fits) } in
    (subst (λ (n : ℕ). Takes bytes (n ∷ x.0) x.1) len (Takes-then bytes (single a.0.0) a.0.1 x.0 x.1 t.0 second), (subst (λ w. prefix_of w ≡ Ok x.0) s h, b.1))

prefix_again : (gln y rest : List ℕ) → IsPrefixOf gln y → prefix_at gln (text_bytes y ++ rest) ≡ Ok (y, rest)
unfolding prefix_at
prefix_again gln y rest h =
    let size = prefix_length y h.0 in
    let counted = six_to_twelve.again (length y) (y ++ rest) size in
    let meant : prefix_for gln y ≡ Some y = rw (h.0, h.1) refl in
    rw counted (cut_again (prefix_for gln) (length (text_bytes y ++ rest)) (length y) y rest refl meant)

pub prefix_codec : (gln : List ℕ) → Codec text_bytes (IsPrefixOf gln) (prefix_at gln)
prefix_codec gln = record { takes = prefix_takes gln; again = prefix_again gln }

pub extension_codec : Codec single (IsWithin 0 9) extension_at
unfolding extension_at
extension_codec = ranged_codec 0 9 (λ n le. omega arith) byte_codec

-- a number below a bound
abbrev IsBelow : ℕ → ℕ → Type 0
IsBelow bound n = (n < bound) × (n < 2 ^ 64)

below_is : (bound left : ℕ) (n x : ℕ × List ℕ) → cond (ltb n.0 bound) (Ok n) (Err (BadField left)) ≡ Ok x → (n ≡ x) × (x.0 < bound)
below_is bound left n x e = by (ltb n.0 bound) refl e
  where
    by : (b : Bool) → ltb n.0 bound ≡ b → cond b (Ok n) (Err (BadField left)) ≡ Ok x → (n ≡ x) × (x.0 < bound)
    by true h e = let s : n ≡ x = cc in (s, subst (λ (y : ℕ × List ℕ). y.0 < bound) s (ltb-true n.0 bound h))
    by false h e = absurd cc

below_codec : (bound : ℕ) → Codec (to_be_bytes w64) (IsBelow bound) (below bound (number_at w64))
below_codec bound = record {
  takes = λ bytes x fits e.
      let a = bind_ok (number_at w64 bytes) (λ n. cond (ltb n.0 bound) (Ok n) (Err (BadField (length bytes)))) x e in
      let r = below_is bound (length bytes) a.0 x a.2 in
      let t = number64.takes bytes a.0 fits a.1 in
      (subst (λ (y : ℕ × List ℕ). Takes bytes (to_be_bytes w64 y.0) y.1) r.0 t.0, (r.1, subst (λ (y : ℕ × List ℕ). y.0 < 2 ^ 64) r.0 t.1));
  again = λ n rest h. let small : ltb n bound ≡ true = grind (arith, nat_tests) in rw (number64.again n rest h.1, small) refl;
}

abbrev pub IsReference : List ℕ → ℕ → Type 0
IsReference prefix n = IsBelow (10 ^ (16 - length prefix)) n

pub reference_codec : (prefix : List ℕ) → Codec (to_be_bytes w64) (IsReference prefix) (reference_at prefix)
unfolding reference_at
reference_codec prefix = below_codec (10 ^ (16 - length prefix))

offset_is : (x y : List ℕ) (b : Bool) → is_offset x ≡ b → cond b (Some x) None ≡ Some y → (x ≡ y) × (is_offset y ≡ true)
offset_is x y true h e = let s : x ≡ y = cc in (s, subst (λ (w : List ℕ). is_offset w ≡ true) s h)
offset_is x y false h e = absurd cc

pub offset_codec : Codec itself (λ y. (is_offset y ≡ true) × (length y ≡ 6)) offset_at
unfolding offset_at
offset_codec = fixed_codec offset_of 6 (λ x y len e. let o = offset_is x y (is_offset x) refl e in (o.0, (o.1, ap length (sym o.0) ∙ len))) (λ y h. (rw h.0 refl, h.1))

-- ---- forms

pub serial_length_codec : Codec single (IsWithin 6 18) serial_length_at
unfolding serial_length_at
serial_length_codec = ranged_codec 6 18 (λ n le. omega arith) byte_codec

byte12 : Codec single (IsWithin 1 2) (ranged 1 2 byte_at)
byte12 = ranged_codec 1 2 (λ n le. omega arith) byte_codec

abbrev alphabet_bytes : Alphabet → List ℕ
alphabet_bytes alphabet = single (alphabet_byte alphabet)

abbrev pub IsLong : ℕ → Alphabet → Type 0
IsLong n alphabet = IsWithin 6 (longest alphabet) n

abbrev TakesAlphabet : ℕ → List ℕ → Alphabet × List ℕ → Type 0
TakesAlphabet n bytes y = Takes bytes (alphabet_bytes y.0) y.1 × IsLong n y.0

letters_after : (n left : ℕ) (bytes after : List ℕ) (x : Alphabet × List ℕ) → IsWithin 6 18 n → Takes bytes (single 2) after → (b : Bool) → nat_le n 12 ≡ b → cond b (Ok (Base32, after)) (Err (BadField left)) ≡ Ok x → TakesAlphabet n bytes x
letters_after n left bytes after x long t true h e =
    let read : Alphabet × List ℕ = (Base32, after) in
    subst (TakesAlphabet n bytes) (ok_is read x e) (t, (long.0, leb-true n 12 h))
letters_after n left bytes after x long t false h e = absurd cc

alphabet_after : (n left : ℕ) (bytes : List ℕ) (k : ℕ) (after : List ℕ) (x : Alphabet × List ℕ) → IsWithin 6 18 n → Takes bytes (single k) after → IsWithin 1 2 k → (b : Bool) → eqb k 1 ≡ b
    → cond b (Ok (Digits, after)) (cond (nat_le n 12) (Ok (Base32, after)) (Err (BadField left))) ≡ Ok x → TakesAlphabet n bytes x
alphabet_after n left bytes k after x long t w true h e =
    let read : Alphabet × List ℕ = (Digits, after) in
    let one_is : k ≡ 1 = eqb-true k 1 h in
    subst (TakesAlphabet n bytes) (ok_is read x e) (subst (λ (m : ℕ). Takes bytes (single m) after) one_is t, long)
alphabet_after n left bytes k after x long t w false h e =
    let two_is : k ≡ 2 = grind (arith, nat_tests, h, w.0, w.1) in
    letters_after n left bytes after x long (subst (λ (m : ℕ). Takes bytes (single m) after) two_is t) (nat_le n 12) refl e

alphabet_takes : (n : ℕ) → IsWithin 6 18 n → TakesBy alphabet_bytes (IsLong n) (alphabet_at n)
unfolding alphabet_at
alphabet_takes n long bytes x fits e =
    let a = bind_ok (ranged 1 2 byte_at bytes) (λ k. cond (eqb k.0 1) (Ok (Digits, k.1)) (cond (nat_le n 12) (Ok (Base32, k.1)) (Err (BadField (length bytes))))) x e in
    let t = byte12.takes bytes a.0 fits a.1 in
    alphabet_after n (length bytes) bytes a.0.0 a.0.1 x long t.0 t.1 (eqb a.0.0 1) refl a.2

alphabet_again : (n : ℕ) (alphabet : Alphabet) (rest : List ℕ) → IsLong n alphabet → alphabet_at n (alphabet_bytes alphabet ++ rest) ≡ Ok (alphabet, rest)
unfolding alphabet_at
alphabet_again n Digits rest h = refl
alphabet_again n Base32 rest h = rw (le-leb n 12 h.1) refl

alphabet_codec : (n : ℕ) → IsWithin 6 18 n → Codec alphabet_bytes (IsLong n) (alphabet_at n)
alphabet_codec n long = record { takes = alphabet_takes n long; again = alphabet_again n }

-- in version 1 there are digits alone
abbrev pub IsFormIn : Version → SerialForm → Type 0
IsFormIn First form = IsWithin 6 18 form.length × (form.alphabet ≡ Digits)
IsFormIn Second form = IsWithin 6 18 form.length × IsLong form.length form.alphabet

second_codec : Codec (form_in Second) (IsFormIn Second) (form_at Second)
unfolding form_at
second_codec = after_codec make_form (λ (f : SerialForm). f.length) (λ (f : SerialForm). f.alphabet) (λ f. refl) (λ x y. refl) (λ x y. refl) IsLong alphabet_at serial_length_codec alphabet_codec

digits_form : ℕ → SerialForm
digits_form n = make_form n Digits

first_codec : Codec (form_in First) (IsFormIn First) (form_at First)
unfolding form_at
first_codec = record {
  takes = one_takes (λ n. make_form n Digits) (form_in First) (IsFormIn First) serial_length_codec (λ n. refl) (λ n h. (h, refl));
  again = λ f rest h. one_again (λ n. make_form n Digits) serial_length_codec f.length rest h.0 ∙ ap (λ (a : Alphabet). Ok (make_form f.length a, rest)) (sym h.1);
}

pub form_codec : (version : Version) → Codec (form_in version) (IsFormIn version) (form_at version)
form_codec First = first_codec
form_codec Second = second_codec

-- ---- products

pub prefix_length_codec : Codec single (IsWithin 6 12) prefix_length_at
unfolding prefix_length_at
prefix_length_codec = six_to_twelve

-- what is new among those before it
new_is : {X : Type 0} (key : List X → List ℕ → Bool) (before : List X) (left : ℕ) (n x : List ℕ × List ℕ) → cond (key before n.0) (Err (BadField left)) (Ok n) ≡ Ok x → (n ≡ x) × (key before x.0 ≡ false)
new_is {X} key before left n x e = by (key before n.0) refl e
  where
    by : (b : Bool) → key before n.0 ≡ b → cond b (Err (BadField left)) (Ok n) ≡ Ok x → (n ≡ x) × (key before x.0 ≡ false)
    by true h e = absurd cc
    by false h e = let s : n ≡ x = cc in (s, subst (λ (y : List ℕ × List ℕ). key before y.0 ≡ false) s h)

new_codec : {X : Type 0} {spell : List ℕ → List ℕ} {Is : List ℕ → Type 0} {read : Reader (List ℕ)} (known : List X → List ℕ → Bool) (before : List X) → Codec spell Is read
    → Codec spell (λ y. Is y × (known before y ≡ false)) (λ bytes. read bytes >>= λ n. cond (known before n.0) (Err (BadField (length bytes))) (Ok n))
new_codec {X} {spell} {Is} {read} known before codec = record {
  takes = λ bytes x fits e.
      let a = bind_ok (read bytes) (λ n. cond (known before n.0) (Err (BadField (length bytes))) (Ok n)) x e in
      let r = new_is known before (length bytes) a.0 x a.2 in
      let t = codec.takes bytes a.0 fits a.1 in
      (subst (λ (y : List ℕ × List ℕ). Takes bytes (spell y.0) y.1) r.0 t.0, (subst (λ (y : List ℕ × List ℕ). Is y.0) r.0 t.1, r.1));
  again = λ y rest h. rw (codec.again y rest h.0, h.1) refl;
}

abbrev pub has_gtin : List Product → List ℕ → Bool
has_gtin before gtin = list_any (λ product. same gtin product.gtin) before

abbrev pub has_name : List Station → List ℕ → Bool
has_name before name = list_any (λ station. same name station.name) before

pub new_gtin_codec : (before : List Product) → Codec itself (λ y. IsGtin y × (has_gtin before y ≡ false)) (new_gtin_at before)
unfolding new_gtin_at
new_gtin_codec before = new_codec has_gtin before gtin_codec

pub new_name_codec : (before : List Station) → Codec text_bytes (λ y. IsText y × (has_name before y ≡ false)) (new_name_at before)
unfolding new_name_at
new_name_codec before = new_codec has_name before text_codec

abbrev pub IsProductAfter : Version → List Product → Product → Type 0
IsProductAfter version before product = (IsGtin product.gtin × (has_gtin before product.gtin ≡ false)) × (IsWithin 6 12 product.prefix_length × IsFormIn version product.form)

pub product_codec : (version : Version) (before : List Product) → Codec (product_in version) (IsProductAfter version before) (product_at version before)
unfolding product_at
product_codec version before = two_codec make_product (λ (p : Product). p.gtin) (λ (p : Product). (p.prefix_length, p.form)) (λ p. refl) (λ x y. refl) (λ x y. refl) (new_gtin_codec before) (pair_codec prefix_length_codec (form_codec version))

pub products_codec : (version : Version) → Codec (list_bytes (product_in version)) (λ (xs : List Product). IsWithin 1 256 (length xs) × AllAfter (IsProductAfter version) [] xs) (products_at version)
unfolding products_at
products_codec version = counted_after 1 256 (IsProductAfter version) (product_at version) (ranged_codec 1 256 (λ n le. omega arith) number16) (product_codec version)

-- ---- stations

byte13 : Codec single (IsWithin 1 3) (ranged 1 3 byte_at)
byte13 = ranged_codec 1 3 (λ n le. omega arith) byte_codec

role_is : (k : ℕ) → IsWithin 1 3 k → role_byte (role_of_byte k) ≡ k
role_is zero w = absurd (omega (arith, w.0))
role_is (suc zero) w = refl
role_is (suc (suc zero)) w = refl
role_is (suc (suc (suc zero))) w = refl
role_is (suc (suc (suc (suc n)))) w = absurd (omega (arith, w.1))

role_takes : TakesBy (λ role. single (role_byte role)) (λ role. Unit {0}) role_at
unfolding role_at
role_takes bytes x fits e =
    let a = bind_ok (ranged 1 3 byte_at bytes) (λ k. Ok (role_of_byte k.0, k.1)) x e in
    let t = byte13.takes bytes a.0 fits a.1 in
    let made : Role × List ℕ = (role_of_byte a.0.0, a.0.1) in
    (subst (λ (y : Role × List ℕ). Takes bytes (single (role_byte y.0)) y.1) (ok_is made x a.2) (subst (λ (k : ℕ). Takes bytes (single k) a.0.1) (sym (role_is a.0.0 t.1)) t.0), tt)

role_again : (role : Role) (rest : List ℕ) → Unit {0} → role_at (single (role_byte role) ++ rest) ≡ Ok (role, rest)
unfolding role_at
role_again Planner rest h = refl
role_again Line rest h = refl
role_again Quality rest h = refl

role_codec : Codec (λ role. single (role_byte role)) (λ role. Unit {0}) role_at
role_codec = record { takes = role_takes; again = role_again }

abbrev pub IsStationAfter : List Station → Station → Type 0
IsStationAfter before station = (IsText station.name × (has_name before station.name ≡ false)) × Unit {0}

pub station_codec : (before : List Station) → Codec station_bytes (IsStationAfter before) (station_at before)
unfolding station_at
station_codec before = two_codec make_station (λ (s : Station). s.name) (λ (s : Station). s.role) (λ s. refl) (λ x y. refl) (λ x y. refl) (new_name_codec before) role_codec

stations_codec : Codec stations_bytes (λ (xs : List Station). IsWithin 1 64 (length xs) × AllAfter IsStationAfter [] xs) stations_at
unfolding stations_at
stations_codec = counted_after 1 64 IsStationAfter station_at (ranged_codec 1 64 (λ n le. omega arith) byte_codec) station_codec

-- ---- the whole

abbrev Tail : Type 0
Tail = ℕ × (ℕ × (List ℕ × (List Product × List Station)))

abbrev IsTail : Version → List ℕ → Tail → Type 0
IsTail version prefix t = IsWithin 0 9 t.0 × (IsReference prefix t.1.0 × (((is_offset t.1.1.0 ≡ true) × (length t.1.1.0 ≡ 6)) × ((IsWithin 1 256 (length t.1.1.1.0) × AllAfter (IsProductAfter version) [] t.1.1.1.0) × (IsWithin 1 64 (length t.1.1.1.1) × AllAfter IsStationAfter [] t.1.1.1.1))))

abbrev tail_in : Version → Tail → List ℕ
tail_in version t = single t.0 ++ (to_be_bytes w64 t.1.0 ++ (t.1.1.0 ++ (list_bytes (product_in version) t.1.1.1.0 ++ stations_bytes t.1.1.1.1)))

tail_codec : (version : Version) (prefix : List ℕ) → Codec (tail_in version) (IsTail version prefix) (after_prefix version prefix)
unfolding after_prefix
tail_codec version prefix = pair_codec extension_codec (pair_codec (reference_codec prefix) (pair_codec offset_codec (pair_codec (products_codec version) stations_codec)))

abbrev IsAfterGln : Version → List ℕ → List ℕ × Tail → Type 0
IsAfterGln version gln z = IsPrefixOf gln z.0 × IsTail version z.0 z.1

after_gln_codec : (version : Version) (gln : List ℕ) → Codec (λ (z : List ℕ × Tail). text_bytes z.0 ++ tail_in version z.1) (IsAfterGln version gln) (after_gln version gln)
unfolding after_gln
after_gln_codec version gln = after_codec pair (λ (z : List ℕ × Tail). z.0) (λ (z : List ℕ × Tail). z.1) (λ z. refl) (λ x y. refl) (λ x y. refl) (IsTail version) (after_prefix version) (prefix_codec gln) (λ prefix h. tail_codec version prefix)

abbrev tail_of : Setup → Tail
tail_of s = (s.extension, (s.reference, (s.offset, (s.products, s.stations))))

-- all that a spelling needs
abbrev pub IsSite : Version → Setup → Type 0
IsSite version s = IsGln s.gln × IsAfterGln version s.gln (s.prefix, tail_of s)

abbrev spelled : Version → Setup → List ℕ
spelled version s = s.gln ++ (text_bytes s.prefix ++ tail_in version (tail_of s))

spelled_codec : (version : Version) → Codec (spelled version) (IsSite version) (parts_at version)
unfolding parts_at
spelled_codec version = after_codec make_setup (λ (s : Setup). s.gln) (λ (s : Setup). (s.prefix, tail_of s)) (λ s. refl) (λ x y. refl) (λ x y. refl) (IsAfterGln version) (after_gln version) gln_codec (λ gln h. after_gln_codec version gln)

same_spelling : (version : Version) (s : Setup) → spelled version s ≡ parts_in version s
unfolding codes_bytes
same_spelling version s =
    let rest : List ℕ = s.offset ++ (list_bytes (product_in version) s.products ++ stations_bytes s.stations) in
    let front : List ℕ = text_bytes s.prefix ++ (single s.extension ++ to_be_bytes w64 s.reference) in
    sym (append_assoc s.gln front rest ∙ ap (λ (w : List ℕ). s.gln ++ w) (append_assoc (text_bytes s.prefix) (single s.extension ++ to_be_bytes w64 s.reference) rest))

pub parts_codec : (version : Version) → Codec (parts_in version) (IsSite version) (parts_at version)
parts_codec version = record {
  takes = λ bytes x fits h. let t = (spelled_codec version).takes bytes x fits h in (subst (λ (w : List ℕ). Takes bytes w x.1) (same_spelling version x.0) t.0, t.1);
  again = λ s rest h. ap (λ (w : List ℕ). parts_at version (w ++ rest)) (sym (same_spelling version s)) ∙ (spelled_codec version).again s rest h;
}
