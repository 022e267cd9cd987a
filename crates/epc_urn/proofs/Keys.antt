-- Keys made of their fields, and the fields of a key.
use Rattle.std.proofs.Common.{◌≡◌, ℕ, ◌+◌, ◌-◌, ◌≤◌, Bool, true, false, eqb, List, [], ◌∷◌, ◌++◌, length, take, drop, set, get_or, Option, Some, None, Result, Ok, Err, refl, sym, ap, subst, ◌∙◌, arith}
use Rattle.std.proofs.lemmas.List.{take_at, set_at, take-append-drop, get_or_at, get_or-drop, length-append, length-take, length-drop}
use Rattle.std.proofs.lemmas.Bool.{le-leb}
use Rattle.std.proofs.lemmas.Bool.Decides.{nat_tests}
use Rattle.gs1_keys.specs.Keys.{check, check_of, front, last, key_fault, first_other, is_digit, is_gtin_length, if_length, or_fault, padded, gtin_of, sscc_of, IsGtin, IsSscc, IsGln}
use Rattle.gs1_keys.specs.declared.fault.KeyFault.{KeyFault}
use Rattle.gs1_keys.proofs.Padding.{is_key, key_has, key_is_gtin, none_from}
use Rattle.gs1_keys.proofs.Known.{gtin_length, sscc_same, gln_same}
use Rattle.epc_urn.specs.Reading.{AreDigits}
use Rattle.epc_urn.specs.Urns.{fields_of, key_of}
use Rattle.epc_urn.proofs.Digits.{none_append, none_parts, passes}

digit : (d : ℕ) → d ≤ 9 → is_digit (d + 48) ≡ true
digit d le = rw (le-leb 48 (d + 48) (omega arith), le-leb (d + 48) 57 (omega arith)) refl

digit_is : (d : ℕ) → is_digit d ≡ true → 48 ≤ d
digit_is d e = grind (arith, nat_tests)

pub check_is_digit : (xs : List ℕ) → check xs ≤ 9
unfolding check
check_is_digit xs = omega arith

pub front_is : (xs : List ℕ) (v : ℕ) → front (xs ++ v ∷ []) ≡ xs
front_is xs v = take_at xs (v ∷ []) (length (xs ++ v ∷ []) - 1) (omega (arith, length-append xs (v ∷ [])))

last_is : (xs : List ℕ) (v : ℕ) → last (xs ++ (v + 48) ∷ []) ≡ v
last_is xs v = ap (λ (n : ℕ). n - 48) (get_or_at xs (v + 48) [] 0 (length (xs ++ (v + 48) ∷ []) - 1) (omega (arith, length-append xs ((v + 48) ∷ [])))) ∙ omega arith

-- digits with their check behind them
abbrev pub checked : List ℕ → List ℕ
checked xs = xs ++ (check xs + 48) ∷ []

checked_is_key : (xs : List ℕ) → AreDigits xs → key_fault (checked xs) ≡ None
checked_is_key xs h =
    let all : AreDigits (checked xs) = none_append is_digit 0 xs ((check xs + 48) ∷ []) h (rw (digit (check xs) (check_is_digit xs)) refl) in
    is_key (checked xs) all (ap check (front_is xs (check xs + 48)) ∙ sym (last_is xs (check xs)))

length_checked : (xs : List ℕ) → length (checked xs) ≡ length xs + 1
length_checked xs = length-append xs ((check xs + 48) ∷ [])

pub checked_gtin : (xs : List ℕ) → length xs ≡ 13 → AreDigits xs → IsGtin (checked xs)
checked_gtin xs len h = key_is_gtin (checked xs) (omega (arith, length_checked xs)) (checked_is_key xs h)

sscc_is : (text : List ℕ) → length text ≡ 18 → key_fault text ≡ None → IsSscc text
unfolding sscc_of
sscc_is text len e = rw (len, e) refl

pub checked_sscc : (xs : List ℕ) → length xs ≡ 17 → AreDigits xs → IsSscc (checked xs)
checked_sscc xs len h = sscc_is (checked xs) (omega (arith, length_checked xs)) (checked_is_key xs h)

-- the check digit of digits is there
pub check_due : (xs : List ℕ) → 1 ≤ length xs → length xs ≤ 17 → AreDigits xs → check_of xs ≡ Ok (check xs)
unfolding check_of
check_due xs some few h = rw (le-leb 1 (length xs) some, le-leb (length xs) 17 few, h) refl

-- the digits of the fields
pub fields_digits : (prefix rest : List ℕ) → AreDigits prefix → AreDigits rest → AreDigits (fields_of prefix rest)
fields_digits prefix [] h k = none_append is_digit 0 prefix [] h refl
fields_digits prefix (r ∷ rs) h k =
    let p = passes (is_digit r) (first_other is_digit 1 rs) 0 k in
    rw (p.0) (none_append is_digit 1 prefix rs (none_from is_digit prefix 0 1 h) (none_from is_digit rs 1 0 p.1))

pub fields_length : (prefix rest : List ℕ) → 1 ≤ length rest → length (fields_of prefix rest) ≡ length prefix + length rest
fields_length prefix [] some = absurd (omega arith)
fields_length prefix (r ∷ rs) some = omega (arith, length-append prefix rs)

pub gtin_made : (prefix rest : List ℕ) → length prefix + length rest ≡ 13 → 1 ≤ length rest → AreDigits prefix → AreDigits rest → IsGtin (key_of prefix rest)
unfolding key_of
gtin_made prefix rest len some h k = checked_gtin (fields_of prefix rest) (fields_length prefix rest some ∙ len) (fields_digits prefix rest h k)

pub sscc_made : (prefix rest : List ℕ) → length prefix + length rest ≡ 17 → 1 ≤ length rest → AreDigits prefix → AreDigits rest → IsSscc (key_of prefix rest)
unfolding key_of
sscc_made prefix rest len some h k = checked_sscc (fields_of prefix rest) (fields_length prefix rest some ∙ len) (fields_digits prefix rest h k)

-- the check digit put behind digits that have their place in a longer list
pub check_put : (digits ys out : List ℕ) (v : ℕ) → ys ≡ digits → length digits + 1 ≡ length out → set (ys ++ drop (length digits) out) (length digits) v ≡ digits ++ v ∷ []
check_put digits ys out v e len = ap (λ (xs : List ℕ). set (xs ++ drop (length digits) out) (length digits) v) e ∙ one (drop (length digits) out) (omega (arith, length-drop {A = ℕ} (length digits) out))
  where
    one : (rest : List ℕ) → length rest ≡ 1 → set (digits ++ rest) (length digits) v ≡ digits ++ v ∷ []
    one [] l = absurd (omega arith)
    one (r ∷ []) l = set_at digits r [] v (length digits) refl
    one (r ∷ s ∷ rs) l = absurd (omega arith)

-- a key is its digits but the last with their check behind them
first_is : (rest : List ℕ) → length rest ≡ 1 → rest ≡ get_or rest 0 0 ∷ []
first_is [] len = absurd (omega arith)
first_is (x ∷ []) len = refl
first_is (x ∷ y ∷ rest) len = absurd (omega arith)

length_fits : (b : Bool) (text x : List ℕ) (due : Result (List ℕ) KeyFault) → if_length b text due ≡ Ok x → due ≡ Ok x
length_fits true text x due e = e
length_fits false text x due e = absurd cc

no_fault : (o : Option KeyFault) (x y : List ℕ) → or_fault o x ≡ Ok y → o ≡ None
no_fault None x y e = refl
no_fault (Some fault) x y e = absurd cc

gtin_key : (x : List ℕ) → IsGtin x → key_fault x ≡ None
unfolding gtin_of
gtin_key x h = no_fault (key_fault x) (padded x) x (length_fits (is_gtin_length (length x)) x x (or_fault (key_fault x) (padded x)) h)

sscc_key : (x : List ℕ) → IsSscc x → key_fault x ≡ None
unfolding sscc_of
sscc_key x h = no_fault (key_fault x) x x (length_fits (eqb (length x) 18) x x (or_fault (key_fault x) x) h)

key_is_checked : (x : List ℕ) → 1 ≤ length x → key_fault x ≡ None → (checked (front x) ≡ x) × AreDigits (front x)
key_is_checked x some e =
    let has = key_has x e in
    let n : length x - 1 ≤ length x = omega arith in
    let whole : front x ++ drop (length x - 1) x ≡ x = take-append-drop (length x - 1) x in
    let both : AreDigits (front x ++ drop (length x - 1) x) = subst AreDigits (sym whole) has.0 in
    let parts = none_parts is_digit 0 (front x) (drop (length x - 1) x) both in
    let one : length (drop (length x - 1) x) ≡ 1 = omega (arith, length-drop {A = ℕ} (length x - 1) x) in
    let end : drop (length x - 1) x ≡ get_or x (length x - 1) 0 ∷ [] = first_is (drop (length x - 1) x) one ∙ ap (λ (v : ℕ). v ∷ []) (get_or-drop (length x - 1) x 0 0 ∙ ap (λ (k : ℕ). get_or x k 0) (omega arith)) in
    let is : is_digit (get_or x (length x - 1) 0) ≡ true = (passes (is_digit (get_or x (length x - 1) 0)) None 0 (subst (λ (w : List ℕ). AreDigits w) end parts.1)).0 in
    let due : check (front x) + 48 ≡ get_or x (length x - 1) 0 = omega (arith, has.1, digit_is (get_or x (length x - 1) 0) is) in
    (ap (λ (v : ℕ). front x ++ v ∷ []) due ∙ ap (λ (w : List ℕ). front x ++ w) (sym end) ∙ whole, parts.0)

pub gtin_is_checked : (x : List ℕ) → IsGtin x → (checked (front x) ≡ x) × AreDigits (front x) × (length (front x) ≡ 13)
gtin_is_checked x h =
    let len = gtin_length x h in
    let k = key_is_checked x (omega arith) (gtin_key x h) in
    (k.0, k.1, omega (arith, length-take {A = ℕ} (length x - 1) x))

pub sscc_is_checked : (x : List ℕ) → IsSscc x → (checked (front x) ≡ x) × AreDigits (front x) × (length (front x) ≡ 17)
sscc_is_checked x h =
    let len = (sscc_same x x h).1 in
    let k = key_is_checked x (omega arith) (sscc_key x h) in
    (k.0, k.1, omega (arith, length-take {A = ℕ} (length x - 1) x))

pub gtin_size : (x : List ℕ) → IsGtin x → length x ≡ 14
gtin_size = gtin_length

pub sscc_size : (x : List ℕ) → IsSscc x → length x ≡ 18
sscc_size x h = (sscc_same x x h).1

pub gln_length : (x : List ℕ) → IsGln x → length x ≡ 13
gln_length x h = (gln_same x x h).1

-- what `check_digit` finds in front of the place of the check digit
pub check_found : (prefix rest ys out : List ℕ) (n : ℕ) (r : Result ℕ KeyFault) → AreDigits prefix → AreDigits rest → 1 ≤ length rest → length prefix + length rest + 1 ≡ length out → length out ≤ 18 → n ≡ length out - 1
    → ys ≡ fields_of prefix rest → r ≡ check_of (take n (ys ++ drop n out)) → r ≡ Ok (check (fields_of prefix rest))
check_found prefix rest ys out n r h k some len few is same e =
    let size : length (fields_of prefix rest) ≡ n = omega (arith, fields_length prefix rest some) in
    let cut : take n (ys ++ drop n out) ≡ fields_of prefix rest = ap (λ (w : List ℕ). take n (w ++ drop n out)) same ∙ take_at (fields_of prefix rest) (drop n out) n size in
    e ∙ ap check_of cut ∙ check_due (fields_of prefix rest) (omega arith) (omega arith) (fields_digits prefix rest h k)

pub key_is_put : (prefix rest ys out : List ℕ) (n v : ℕ) → 1 ≤ length rest → length prefix + length rest + 1 ≡ length out → n ≡ length out - 1 → ys ≡ fields_of prefix rest → v ≡ check (fields_of prefix rest)
    → set (ys ++ drop n out) n (48 + v) ≡ key_of prefix rest
unfolding key_of
key_is_put prefix rest ys out n v some len is same e =
    let size : length (fields_of prefix rest) ≡ n = omega (arith, fields_length prefix rest some) in
    let digit : 48 + v ≡ check (fields_of prefix rest) + 48 = omega arith in
    ap (λ (k : ℕ). set (ys ++ drop k out) k (48 + v)) (sym size) ∙ check_put (fields_of prefix rest) ys out (48 + v) same (omega arith) ∙ ap (λ (d : ℕ). fields_of prefix rest ++ d ∷ []) digit

-- what `check_digit` answers has to be that check
pub digit_found : (d e : ℕ) (r : Result ℕ KeyFault) → r ≡ Ok d → r ≡ Ok e → d ≡ e
digit_found d e r f g = cc

pub no_digit_fault : (fault : KeyFault) (e : ℕ) (r : Result ℕ KeyFault) → r ≡ Err fault → r ≡ Ok e → ⊥
no_digit_fault fault e r f g = absurd cc
