-- Digits as std reads them.
use Rattle.std.proofs.Common.{◌≡◌, ◌<◌, ◌^◌, ℕ, zero, suc, Bool, true, false, List, [], ◌∷◌, length, slice_index, Option, Some, None, Result, Ok, Err, sym, ap, ◌∙◌, arith, nat_lt, if◌then◌else◌, rules}
use Rattle.std.specs.Char.{is_ascii_digit}
use Rattle.std.specs.List.{list_all}
use Rattle.std.specs.Result.{OkIff}
use Rattle.std.specs.Str.Parse.{digits_value, ParsesUnsigned}
use Rattle.std.proofs.lemmas.Str.Parse.{IsDigitsTest, IsNumeralModel, numerals_by_value, parse_digits}

abbrev AreDigits : List ℕ → Type 0
AreDigits ds = list_all is_ascii_digit ds ≡ true

tells : IsDigitsTest AreDigits
tells = search rules

own : IsNumeralModel AreDigits (digits_value 10)
own = numerals_by_value AreDigits tells

test_true : (n m : ℕ) → n < m → nat_lt n m ≡ true
test_true n m h = grind arith

test_false : (n m : ℕ) → (n < m → ⊥) → nat_lt n m ≡ false
test_false n m h = grind arith

by_result : {E : Type 0} (n k : ℕ) (r : Result ℕ E) → 0 < k → OkIff r ((0 < k) × (n < 2 ^ 64)) n → (x : ℕ) → r ≡ Ok x → Some x ≡ (if nat_lt n (2 ^ 64) then Some n else None)
by_result n k (Ok y) some h x e =
    let same : y ≡ x = cc in
    ap Some (sym same ∙ h.1) ∙ ap (λ (b : Bool). if b then Some n else None) (sym (test_true n (2 ^ 64) h.0.1))
by_result n k (Err f) some h x e = absurd cc

by_error : {E : Type 0} (n k : ℕ) (r : Result ℕ E) → 0 < k → OkIff r ((0 < k) × (n < 2 ^ 64)) n → (f : E) → r ≡ Err f → ◌≡◌ {A = Option ℕ} None (if nat_lt n (2 ^ 64) then Some n else None)
by_error n k (Ok y) some h f e = absurd cc
by_error n k (Err g) some h f e = ap (λ (b : Bool). if b then Some n else None) (sym (test_false n (2 ^ 64) (λ lt. h (some, lt))))

pub parsed : {E : Type 0} (bs : List ℕ) (r : Result ℕ E) → ParsesUnsigned 64 10 bs r → list_all is_ascii_digit bs ≡ true → 0 < length bs → (x : ℕ) → r ≡ Ok x
    → Some x ≡ (if nat_lt (digits_value 10 bs) (2 ^ 64) then Some (digits_value 10 bs) else None)
parsed bs r h digits some x e = by_result (digits_value 10 bs) (length bs) r some (parse_digits own 64 bs r h digits) x e

pub too_large : {E : Type 0} (bs : List ℕ) (r : Result ℕ E) → ParsesUnsigned 64 10 bs r → list_all is_ascii_digit bs ≡ true → 0 < length bs → (f : E) → r ≡ Err f
    → ◌≡◌ {A = Option ℕ} None (if nat_lt (digits_value 10 bs) (2 ^ 64) then Some (digits_value 10 bs) else None)
too_large bs r h digits some f e = by_error (digits_value 10 bs) (length bs) r some (parse_digits own 64 bs r h digits) f e

pub digits_are_ascii : (bs : List ℕ) → list_all is_ascii_digit bs ≡ true → (i : ℕ) → slice_index bs i < 128
digits_are_ascii [] h i = omega arith
digits_are_ascii (c ∷ cs) h zero = let p = tells.parts c cs h in omega (arith, p.0)
digits_are_ascii (c ∷ cs) h (suc i) = digits_are_ascii cs (tells.parts c cs h).1 i
