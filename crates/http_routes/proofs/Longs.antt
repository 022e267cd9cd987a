-- A text that is too long is no name and no key.
use Rattle.std.proofs.Common.{◌≡◌, ◌<◌, ◌==◌, ℕ, Bool, false, List, length, Option, None, ap, sym, arith}
use Rattle.std.specs.Result.{result_ok}
use Rattle.std.proofs.lemmas.Bool.Decides.{nat_tests}
use Rattle.gs1_keys.specs.Keys.{text_of, gtin_of, sscc_of, is_between, is_gtin_length, if_length, or_at, or_fault, first_other, is_in_set, key_fault, padded}
use Rattle.gs1_keys.specs.declared.fault.KeyFault.TheVariants.{NotInSet}

text_length : (n : ℕ) → 20 < n → is_between 1 20 n ≡ false
text_length n h = grind (arith, nat_tests)

gtin_length : (n : ℕ) → 20 < n → is_gtin_length n ≡ false
gtin_length n h = grind (arith, nat_tests)

sscc_length : (n : ℕ) → 20 < n → (n == 18) ≡ false
sscc_length n h = grind (arith, nat_tests)

pub long_name : (d : List ℕ) → 20 < length d → ◌≡◌ {A = Option (List ℕ)} None (result_ok (text_of d))
unfolding text_of
long_name d h = ap (λ (b : Bool). result_ok (if_length b d (or_at (first_other is_in_set 0 d) NotInSet d))) (sym (text_length (length d) h))

pub long_gtin : (d : List ℕ) → 20 < length d → ◌≡◌ {A = Option (List ℕ)} None (result_ok (gtin_of d))
unfolding gtin_of
long_gtin d h = ap (λ (b : Bool). result_ok (if_length b d (or_fault (key_fault d) (padded d)))) (sym (gtin_length (length d) h))

pub long_sscc : (d : List ℕ) → 20 < length d → ◌≡◌ {A = Option (List ℕ)} None (result_ok (sscc_of d))
unfolding sscc_of
long_sscc d h = ap (λ (b : Bool). result_ok (if_length b d (or_fault (key_fault d) d))) (sym (sscc_length (length d) h))
