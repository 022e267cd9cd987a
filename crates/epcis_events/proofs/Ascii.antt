-- Texts of events are ASCII.
use Rattle.std.proofs.Common.{◌≡◌, ℕ, ◌<◌, ◌≤◌, ◌+◌, ◌-◌, ◌*◌, ◌/◌, ◌%◌, suc, zero, Bool, true, false, List, [], ◌∷◌, ◌++◌, take, drop, length, Option, Some, None, refl, arith, lit<, IsAscii, cond}
use Rattle.std.specs.Prelude.{◌==◌, if◌then◌else◌, nat_lt, slice_index, is_none, ◌&&◌, ◌||◌}
use Rattle.std.specs.Str.{IsUtf8}
use Rattle.std.proofs.lemmas.Bool.{and_parts, eqb-true}
use Rattle.std.proofs.lemmas.Str.{IsUtf8-from_ascii, IsAscii-append, IsAscii-take, IsAscii-drop}
use Rattle.std.proofs.lemmas.Str.Ascii.{IsAscii-nil}
use Rattle.std.proofs.lemmas.List.{get_or_past}
use Rattle.std.proofs.lemmas.Bool.Decides.{nat_tests}
use Rattle.gs1_keys.specs.Keys.{is_digit, is_in_set, first_other, front, IsText, IsSscc, IsGtin, IsGln}
use Rattle.gs1_keys.proofs.Known.{text_set, sscc_digits, gtin_digits, gln_digits}
use Rattle.gs1_element.specs.Dates.{two_digits, days_in, is_expiry, date_fault}
use Rattle.epc_urn.specs.declared.epc.Epc.TheVariants.{Item, Unit as Box}
use Rattle.epc_urn.specs.Serial.{written, serial_text}
use Rattle.epc_urn.specs.Urns.{urn_text, sgln_text, key_text, sgtin_scheme, sscc_scheme, sgln_scheme}
use Rattle.jiff_core.proofs.CalendarLemmas.{days_in_month_bounds}
use Rattle.deed_words.specs.Setups.{is_offset}
use Rattle.epcis_events.specs.Moment.{two_digit, day_after, date_text, clock_text, moment_text}
use Rattle.epcis_events.specs.Documents.{day_meant, date_of, IsInTime}
use Rattle.epcis_events.proofs.Days.{day_after_number}
use Rattle.std.proofs.Common.{pos}

pub ascii_is_utf8 : (characters : List ℕ) → IsAscii characters → IsUtf8 characters
ascii_is_utf8 characters ascii = IsUtf8-from_ascii characters ascii

pub one_ascii : (x : ℕ) → x < 128 → IsAscii (x ∷ [])
one_ascii x small zero = small
one_ascii x small (suc i) = IsAscii-nil i

pub cons_ascii : (x : ℕ) (xs : List ℕ) → x < 128 → IsAscii xs → IsAscii (x ∷ xs)
cons_ascii x xs small rest zero = small
cons_ascii x xs small rest (suc i) = rest i

passes : (b : Bool) (rest : Option ℕ) (at : ℕ) → cond b rest (Some at) ≡ None → (b ≡ true) × (rest ≡ None)
passes true rest at none = (refl, none)
passes false rest at none = absurd cc

-- characters that all pass a test of ASCII alone
are_ascii : (test : ℕ → Bool) → ((b : ℕ) → test b ≡ true → b < 128) → (at : ℕ) (xs : List ℕ) → first_other test at xs ≡ None → IsAscii xs
are_ascii test small at [] none i = lit< tt
are_ascii test small at (x ∷ xs) none zero = small x (passes (test x) (first_other test (at + 1) xs) at none).0
are_ascii test small at (x ∷ xs) none (suc i) = are_ascii test small (at + 1) xs (passes (test x) (first_other test (at + 1) xs) at none).1 i

abbrev is_low : ℕ → Bool
is_low b = nat_lt b 128

low_is_ascii : (b : ℕ) → is_low b ≡ true → b < 128
low_is_ascii b is = grind (arith, nat_tests)

set_is_ascii : (b : ℕ) → is_in_set b ≡ true → b < 128
set_is_ascii b is = grind (arith, nat_tests)

digit_is_ascii : (b : ℕ) → is_digit b ≡ true → b < 128
digit_is_ascii b is = grind (arith, nat_tests)

pub text_is_ascii : (text : List ℕ) → IsText text → IsAscii text
text_is_ascii text is = are_ascii is_in_set set_is_ascii 0 text (text_set text is)

pub sscc_is_ascii : (sscc : List ℕ) → IsSscc sscc → IsAscii sscc
sscc_is_ascii sscc is = are_ascii is_digit digit_is_ascii 0 sscc (sscc_digits sscc is)

pub gtin_is_ascii : (gtin : List ℕ) → IsGtin gtin → IsAscii gtin
gtin_is_ascii gtin is = are_ascii is_digit digit_is_ascii 0 gtin (gtin_digits gtin is)

pub gln_is_ascii : (gln : List ℕ) → IsGln gln → IsAscii gln
gln_is_ascii gln is = are_ascii is_digit digit_is_ascii 0 gln (gln_digits gln is)

-- URNs

dot_is_ascii : IsAscii (46 ∷ [])
dot_is_ascii = are_ascii is_low low_is_ascii 0 (46 ∷ []) refl

key_is_ascii : (digits : List ℕ) (n : ℕ) → IsAscii digits → IsAscii (key_text n digits)
key_is_ascii digits n ascii =
    IsAscii-append (take n (drop 1 digits)) (46 ∷ (take 1 digits ++ drop (1 + n) digits)) (IsAscii-take (drop 1 digits) n (IsAscii-drop digits 1 ascii))
    (IsAscii-append (46 ∷ []) (take 1 digits ++ drop (1 + n) digits) dot_is_ascii (IsAscii-append (take 1 digits) (drop (1 + n) digits) (IsAscii-take digits 1 ascii) (IsAscii-drop digits (1 + n) ascii)))

if_ascii : (b : Bool) (xs ys : List ℕ) → IsAscii xs → IsAscii ys → IsAscii (if b then xs else ys)
if_ascii true xs ys one other = one
if_ascii false xs ys one other = other

low : (xs : List ℕ) → first_other is_low 0 xs ≡ None → IsAscii xs
low xs e = are_ascii is_low low_is_ascii 0 xs e

written_is_ascii : (c : ℕ) → c < 128 → IsAscii (written c)
written_is_ascii c small =
    if_ascii (c == 34) _ _ (low (37 ∷ 50 ∷ 50 ∷ []) refl)
    (if_ascii (c == 37) _ _ (low (37 ∷ 50 ∷ 53 ∷ []) refl)
    (if_ascii (c == 38) _ _ (low (37 ∷ 50 ∷ 54 ∷ []) refl)
    (if_ascii (c == 47) _ _ (low (37 ∷ 50 ∷ 70 ∷ []) refl)
    (if_ascii (c == 60) _ _ (low (37 ∷ 51 ∷ 67 ∷ []) refl)
    (if_ascii (c == 62) _ _ (low (37 ∷ 51 ∷ 69 ∷ []) refl)
    (if_ascii (c == 63) _ _ (low (37 ∷ 51 ∷ 70 ∷ []) refl) (one_ascii c small)))))))

serial_is_ascii : (serial : List ℕ) → IsAscii serial → IsAscii (serial_text serial)
serial_is_ascii [] ascii = IsAscii-nil
serial_is_ascii (c ∷ serial) ascii = IsAscii-append (written c) (serial_text serial) (written_is_ascii c (ascii 0)) (serial_is_ascii serial (λ i. ascii (suc i)))

pub item_urn_is_ascii : (gtin serial : List ℕ) (prefix_length : ℕ) → IsAscii gtin → IsAscii serial → IsAscii (urn_text (Item gtin serial) prefix_length)
unfolding urn_text sgtin_scheme
item_urn_is_ascii gtin serial prefix_length digits text =
    IsAscii-append sgtin_scheme (key_text prefix_length (front gtin) ++ 46 ∷ serial_text serial) (low sgtin_scheme refl)
    (IsAscii-append (key_text prefix_length (front gtin)) (46 ∷ serial_text serial) (key_is_ascii (front gtin) prefix_length (IsAscii-take gtin (length gtin - 1) digits)) (cons_ascii 46 (serial_text serial) (lit< tt) (serial_is_ascii serial text)))

pub unit_urn_is_ascii : (sscc : List ℕ) (prefix_length : ℕ) → IsAscii sscc → IsAscii (urn_text (Box sscc) prefix_length)
unfolding urn_text sscc_scheme
unit_urn_is_ascii sscc prefix_length ascii =
    IsAscii-append sscc_scheme (key_text prefix_length (front sscc)) (low sscc_scheme refl) (key_is_ascii (front sscc) prefix_length (IsAscii-take sscc (length sscc - 1) ascii))

pub sgln_is_ascii : (gln : List ℕ) (prefix_length : ℕ) → IsAscii gln → IsAscii (sgln_text gln prefix_length)
unfolding sgln_text sgln_scheme
sgln_is_ascii gln prefix_length ascii =
    let digits = IsAscii-take gln (length gln - 1) ascii in
    IsAscii-append sgln_scheme ((take prefix_length (front gln) ++ 46 ∷ drop prefix_length (front gln)) ++ 46 ∷ 48 ∷ []) (low sgln_scheme refl)
    (IsAscii-append (take prefix_length (front gln) ++ 46 ∷ drop prefix_length (front gln)) (46 ∷ 48 ∷ [])
    (IsAscii-append (take prefix_length (front gln)) (46 ∷ drop prefix_length (front gln)) (IsAscii-take (front gln) prefix_length digits) (cons_ascii 46 (drop prefix_length (front gln)) (lit< tt) (IsAscii-drop (front gln) prefix_length digits)))
    (low (46 ∷ 48 ∷ []) refl))

-- moments

two_then : (n : ℕ) (rest : List ℕ) → n < 100 → IsAscii rest → IsAscii (two_digit n ++ rest)
two_then n rest small ascii = cons_ascii (48 + n / 10) ((48 + n % 10) ∷ rest) (omega arith) (cons_ascii (48 + n % 10) rest (omega arith) ascii)

clock_is_ascii : (ms : ℕ) (rest : List ℕ) → ms < 86400000 → IsAscii rest → IsAscii (clock_text ms ++ rest)
clock_is_ascii ms rest small ascii =
    let a : List ℕ = two_digit (ms % 100) ++ rest in
    let b : List ℕ = (48 + ms % 1_000 / 100) ∷ a in
    let c : List ℕ = 46 ∷ b in
    let d : List ℕ = two_digit (ms / 1_000 % 60) ++ c in
    let e : List ℕ = 58 ∷ d in
    let f : List ℕ = two_digit (ms / 60_000 % 60) ++ e in
    let g : List ℕ = 58 ∷ f in
    two_then (ms / 3_600_000) g (omega arith)
    (cons_ascii 58 f (lit< tt)
    (two_then (ms / 60_000 % 60) e (omega arith)
    (cons_ascii 58 d (lit< tt)
    (two_then (ms / 1_000 % 60) c (omega arith)
    (cons_ascii 46 b (lit< tt)
    (cons_ascii (48 + ms % 1_000 / 100) a (omega arith)
    (two_then (ms % 100) rest (omega arith) ascii)))))))

date_is_ascii : (year month day : ℕ) (rest : List ℕ) → year ≤ 9999 → month < 100 → day < 100 → IsAscii rest → IsAscii (date_text (record { year = year; month = month; day = day }) ++ rest)
date_is_ascii year month day rest y m d ascii =
    let a : List ℕ = two_digit day ++ rest in
    let b : List ℕ = 45 ∷ a in
    let c : List ℕ = two_digit month ++ b in
    let e : List ℕ = 45 ∷ c in
    let f : List ℕ = two_digit (year % 100) ++ e in
    two_then (year / 100) f (omega (arith, y))
    (two_then (year % 100) e (omega arith)
    (cons_ascii 45 c (lit< tt)
    (two_then month b m
    (cons_ascii 45 a (lit< tt)
    (two_then day rest d ascii)))))

pub moment_is_ascii : (stamp : ℕ) → IsInTime stamp → IsAscii (moment_text stamp)
unfolding moment_text
moment_is_ascii stamp h =
    let n : ℕ = stamp / 86_400_000 in
    let days : n ≤ 2_932_896 = omega arith in
    let d = day_after_number n days in
    let bound = days_in_month_bounds (pos (day_after n).year) (day_after n).month in
    let day : (day_after n).day < 100 = omega (arith, d.day.1, bound.1) in
    let month : (day_after n).month < 100 = omega (arith, d.month.1) in
    let clock : List ℕ = clock_text (stamp % 86_400_000) ++ 90 ∷ [] in
    date_is_ascii (day_after n).year (day_after n).month (day_after n).day (84 ∷ clock) d.high month day
    (cons_ascii 84 clock (lit< tt) (clock_is_ascii (stamp % 86_400_000) (90 ∷ []) (omega arith) (one_ascii 90 (lit< tt))))

-- expiries

pub expiry_is_ascii : (expiry : List ℕ) → is_expiry expiry ≡ true → IsAscii expiry
unfolding is_expiry
expiry_is_ascii expiry e =
    let p = and_parts ((length expiry == 6) && is_none (first_other is_digit 0 expiry)) (is_none (date_fault expiry)) e in
    let q = and_parts (length expiry == 6) (is_none (first_other is_digit 0 expiry)) p.0 in
    are_ascii is_digit digit_is_ascii 0 expiry (nothing (first_other is_digit 0 expiry) q.1)
  where
    nothing : (o : Option ℕ) → is_none o ≡ true → o ≡ None
    nothing None e = refl
    nothing (Some n) e = absurd cc

-- each of the six is a digit
at_each : (at i : ℕ) (xs : List ℕ) → first_other is_digit at xs ≡ None → i < length xs → is_digit (slice_index xs i) ≡ true
at_each at i [] none h = absurd (omega (arith, h))
at_each at zero (x ∷ xs) none h = (passes (is_digit x) (first_other is_digit (at + 1) xs) at none).0
at_each at (suc i) (x ∷ xs) none h = at_each (at + 1) i xs (passes (is_digit x) (first_other is_digit (at + 1) xs) at none).1 (omega (arith, h))

digits_of_expiry : (expiry : List ℕ) → is_expiry expiry ≡ true → (i : ℕ) → i < 6 → is_digit (slice_index expiry i) ≡ true
unfolding is_expiry
digits_of_expiry expiry e i h =
    let p = and_parts ((length expiry == 6) && is_none (first_other is_digit 0 expiry)) (is_none (date_fault expiry)) e in
    let q = and_parts (length expiry == 6) (is_none (first_other is_digit 0 expiry)) p.0 in
    let long : length expiry ≡ 6 = eqb-true (length expiry) 6 q.0 in
    at_each 0 i expiry (nothing (first_other is_digit 0 expiry) q.1) (omega arith)
  where
    nothing : (o : Option ℕ) → is_none o ≡ true → o ≡ None
    nothing None e = refl
    nothing (Some n) e = absurd cc

two_digits_small : (a b : ℕ) → is_digit a ≡ true → is_digit b ≡ true → (a - 48) * 10 + (b - 48) < 100
two_digits_small a b x y = grind (arith, nat_tests)

days_small : (year month : ℕ) → days_in year month < 100
days_small year month =
    small (month == 2) _ _ (small (year % 4 == 0) 29 28 (lit< tt) (lit< tt)) (small (month == 4) 30 _ (lit< tt) (small (month == 6) 30 _ (lit< tt) (small (month == 9) 30 _ (lit< tt) (small (month == 11) 30 31 (lit< tt) (lit< tt)))))
  where
    small : (b : Bool) (m n : ℕ) → m < 100 → n < 100 → (if b then m else n) < 100
    small true m n x y = x
    small false m n x y = y

pub small_day : (expiry : List ℕ) → is_expiry expiry ≡ true → day_meant expiry < 100
unfolding day_meant
small_day expiry e =
    let digits = digits_of_expiry expiry e in
    choose (two_digits expiry 4 == 0) _ _ (days_small (two_digits expiry 0) (two_digits expiry 2)) (two_digits_small (slice_index expiry 4) (slice_index expiry 5) (digits 4 (lit< tt)) (digits 5 (lit< tt)))
  where
    choose : (b : Bool) (m n : ℕ) → m < 100 → n < 100 → (if b then m else n) < 100
    choose true m n x y = x
    choose false m n x y = y

pub date_ascii : (expiry : List ℕ) → is_expiry expiry ≡ true → IsAscii (date_of expiry)
unfolding date_of
date_ascii expiry e =
    let ascii = expiry_is_ascii expiry e in
    let day : List ℕ = two_digit (day_meant expiry) ++ [] in
    let a : List ℕ = 45 ∷ day in
    let b : List ℕ = slice_index expiry 3 ∷ a in
    let c : List ℕ = slice_index expiry 2 ∷ b in
    let d : List ℕ = 45 ∷ c in
    let f : List ℕ = slice_index expiry 1 ∷ d in
    let g : List ℕ = slice_index expiry 0 ∷ f in
    let h : List ℕ = 48 ∷ g in
    cons_ascii 50 h (lit< tt) (cons_ascii 48 g (lit< tt) (cons_ascii (slice_index expiry 0) f (ascii 0) (cons_ascii (slice_index expiry 1) d (ascii 1) (cons_ascii 45 c (lit< tt)
    (cons_ascii (slice_index expiry 2) b (ascii 2) (cons_ascii (slice_index expiry 3) a (ascii 3) (cons_ascii 45 day (lit< tt) (two_then (day_meant expiry) [] (small_day expiry e) IsAscii-nil))))))))

-- an offset

pub offset_is_ascii : (text : List ℕ) → is_offset text ≡ true → IsAscii text
unfolding is_offset
offset_is_ascii text e =
    let p1 = and_parts _ _ e in
    let p2 = and_parts _ _ p1.0 in
    let p3 = and_parts _ _ p2.0 in
    let p4 = and_parts _ _ p3.0 in
    let p5 = and_parts _ _ p4.0 in
    let p6 = and_parts _ _ p5.0 in
    let p7 = and_parts _ _ p6.0 in
    let p8 = and_parts _ _ p7.0 in
    six text p8.0 (sign_small (slice_index text 0) p8.1) (digit_is_ascii (slice_index text 1) p7.1) (digit_is_ascii (slice_index text 2) p6.1) (colon_small (slice_index text 3) p5.1) (digit_is_ascii (slice_index text 4) p4.1) (digit_is_ascii (slice_index text 5) p3.1)
  where
    sign_small : (b : ℕ) → ((b == 43) || (b == 45)) ≡ true → b < 128
    sign_small b h = grind (arith, nat_tests)

    colon_small : (b : ℕ) → (b == 58) ≡ true → b < 128
    colon_small b h = grind (arith, nat_tests)

    six : (xs : List ℕ) → (length xs == 6) ≡ true → slice_index xs 0 < 128 → slice_index xs 1 < 128 → slice_index xs 2 < 128 → slice_index xs 3 < 128 → slice_index xs 4 < 128 → slice_index xs 5 < 128 → IsAscii xs
    six xs len a b c d e f zero = a
    six xs len a b c d e f (suc zero) = b
    six xs len a b c d e f (suc (suc zero)) = c
    six xs len a b c d e f (suc (suc (suc zero))) = d
    six xs len a b c d e f (suc (suc (suc (suc zero)))) = e
    six xs len a b c d e f (suc (suc (suc (suc (suc zero))))) = f
    six xs len a b c d e f (suc (suc (suc (suc (suc (suc i)))))) =
        let long : length xs ≡ 6 = eqb-true (length xs) 6 len in
        let past : slice_index xs (suc (suc (suc (suc (suc (suc i)))))) ≡ 0 = get_or_past xs (suc (suc (suc (suc (suc (suc i)))))) 0 (omega arith) in
        rw past (lit< tt)
