-- The digits that a text begins with.
use Rattle.std.proofs.Common.{◌≡◌, ℕ, zero, suc, ◌+◌, ◌≤◌, Bool, true, false, cond, List, [], ◌∷◌, ◌++◌, length, take, Option, Some, None, Ok, refl, arith}
use Rattle.std.specs.List.{prefix_len}
use Rattle.std.proofs.lemmas.List.Sums.{prefix_len-le-length}
use Rattle.std.proofs.lemmas.List.{take_at, drop_at}
use Rattle.std.proofs.lemmas.Bool.{le-leb}
use Rattle.gs1_keys.specs.Keys.{first_other, is_digit}
use Rattle.gs1_keys.proofs.Padding.{none_from, one_more}
use Rattle.epc_urn.specs.Reading.{digits_at, prefix_at, AreDigits}

pub count_within : (xs : List ℕ) → prefix_len is_digit xs ≤ length xs
count_within xs = prefix_len-le-length is_digit xs

-- digits in front of digits
pub none_append : (test : ℕ → Bool) (at : ℕ) (xs ys : List ℕ) → first_other test at xs ≡ None → first_other test 0 ys ≡ None → first_other test at (xs ++ ys) ≡ None
none_append test at [] ys e f = none_from test ys 0 at f
none_append test at (x ∷ xs) ys e f = one_more (test x) (first_other test (at + 1) xs) (first_other test (at + 1) (xs ++ ys)) at at (λ g. none_append test (at + 1) xs ys g f) e

pub passes : (b : Bool) (o : Option ℕ) (at : ℕ) → cond b o (Some at) ≡ None → (b ≡ true) × (o ≡ None)
passes true o at e = (refl, e)
passes false o at e = absurd cc

-- digits in two parts
pub none_parts : (test : ℕ → Bool) (at : ℕ) (xs ys : List ℕ) → first_other test at (xs ++ ys) ≡ None → (first_other test at xs ≡ None) × (first_other test 0 ys ≡ None)
none_parts test at [] ys e = (refl, none_from test ys at 0 e)
none_parts test at (x ∷ xs) ys e =
    let p = passes (test x) (first_other test (at + 1) (xs ++ ys)) at e in
    let q = none_parts test (at + 1) xs ys p.1 in
    (rw (p.0) (q.0), q.1)

next : (b : Bool) (p n at : ℕ) (o : Option ℕ) → suc n ≤ cond b (1 + p) 0 → (n ≤ p → o ≡ None) → cond b o (Some at) ≡ None
next true p n at o le f = f (omega arith)
next false p n at o le f = absurd (omega arith)

-- as many bytes as the digits in front are digits
front_from : (n at : ℕ) (xs : List ℕ) → n ≤ prefix_len is_digit xs → first_other is_digit at (take n xs) ≡ None
front_from zero at xs le = refl
front_from (suc n) at [] le = refl
front_from (suc n) at (x ∷ xs) le = next (is_digit x) (prefix_len is_digit xs) n at (first_other is_digit (at + 1) (take n xs)) le (front_from n (at + 1) xs)

pub front_digits : (n : ℕ) (xs : List ℕ) → n ≤ prefix_len is_digit xs → AreDigits (take n xs)
front_digits n xs le = front_from n 0 xs le

-- digits with a byte behind them that is none
count_is : (at : ℕ) (ds rest : List ℕ) (b : ℕ) → first_other is_digit at ds ≡ None → is_digit b ≡ false → prefix_len is_digit (ds ++ b ∷ rest) ≡ length ds
count_is at [] rest b e other = rw other refl
count_is at (d ∷ ds) rest b e other =
    let p = passes (is_digit d) (first_other is_digit (at + 1) ds) at e in
    rw (p.0) (omega (arith, count_is (at + 1) ds rest b p.1 other))

covers : (at : ℕ) (ds rest : List ℕ) → first_other is_digit at ds ≡ None → length ds ≤ prefix_len is_digit (ds ++ rest)
covers at [] rest e = omega arith
covers at (d ∷ ds) rest e =
    let p = passes (is_digit d) (first_other is_digit (at + 1) ds) at e in
    rw (p.0) (omega (arith, covers (at + 1) ds rest p.1))

pub digits_again : (n : ℕ) (ds rest : List ℕ) → AreDigits ds → length ds ≡ n → digits_at n (ds ++ rest) ≡ Ok (ds, rest)
unfolding digits_at
digits_again n ds rest h len =
    let fits : n ≤ prefix_len is_digit (ds ++ rest) = omega (arith, covers 0 ds rest h) in
    rw (le-leb n (prefix_len is_digit (ds ++ rest)) fits, take_at ds rest n len, drop_at ds rest n len) refl

pub prefix_again : (ds rest : List ℕ) → AreDigits ds → 6 ≤ length ds → length ds ≤ 12 → prefix_at (ds ++ 46 ∷ rest) ≡ Ok (ds, rest)
unfolding prefix_at
prefix_again ds rest h some few =
    let count : prefix_len is_digit (ds ++ 46 ∷ rest) ≡ length ds = count_is 0 ds rest 46 h refl in
    rw (count, drop_at ds (46 ∷ rest) (length ds) refl, le-leb 6 (length ds) some, le-leb (length ds) 12 few, take_at ds (46 ∷ rest) (length ds) refl) refl
