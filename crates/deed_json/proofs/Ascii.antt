-- Texts and keys are ASCII.
use Rattle.std.proofs.Common.{◌≡◌, ℕ, ◌<◌, ◌+◌, suc, zero, Bool, true, false, List, [], ◌∷◌, length, Option, Some, None, Result, Ok, refl, arith, lit<, IsAscii, cond}
use Rattle.std.specs.Prelude.{◌==◌}
use Rattle.std.specs.Str.{IsUtf8}
use Rattle.std.proofs.lemmas.Str.{IsUtf8-from_ascii}
use Rattle.std.proofs.lemmas.Bool.Decides.{nat_tests}
use Rattle.gs1_keys.specs.declared.fault.KeyFault.{KeyFault}
use Rattle.gs1_keys.specs.Keys.{is_digit, is_in_set, first_other, after_digits, key_fault, or_fault, if_length, sscc_of, IsText, IsSscc}
use Rattle.gs1_keys.proofs.Known.{text_set}

pub ascii_is_utf8 : (characters : List ℕ) → IsAscii characters → IsUtf8 characters
ascii_is_utf8 characters ascii = IsUtf8-from_ascii characters ascii

passes : (b : Bool) (rest : Option ℕ) (at : ℕ) → cond b rest (Some at) ≡ None → (b ≡ true) × (rest ≡ None)
passes true rest at none = (refl, none)
passes false rest at none = absurd cc

-- characters that all pass a test of ASCII alone
pub are_ascii : (test : ℕ → Bool) → ((b : ℕ) → test b ≡ true → b < 128) → (at : ℕ) (xs : List ℕ) → first_other test at xs ≡ None → IsAscii xs
are_ascii test small at [] none i = lit< tt
are_ascii test small at (x ∷ xs) none zero = small x (passes (test x) (first_other test (at + 1) xs) at none).0
are_ascii test small at (x ∷ xs) none (suc i) = are_ascii test small (at + 1) xs (passes (test x) (first_other test (at + 1) xs) at none).1 i

set_is_ascii : (b : ℕ) → is_in_set b ≡ true → b < 128
set_is_ascii b is = grind (arith, nat_tests)

digit_is_ascii : (b : ℕ) → is_digit b ≡ true → b < 128
digit_is_ascii b is = grind (arith, nat_tests)

pub text_is_ascii : (text : List ℕ) → IsText text → IsAscii text
text_is_ascii text is = are_ascii is_in_set set_is_ascii 0 text (text_set text is)

all_digits : (other : Option ℕ) (fault : Option KeyFault) (x y : List ℕ) → or_fault (after_digits other fault) x ≡ Ok y → other ≡ None
all_digits None fault x y e = refl
all_digits (Some at) fault x y e = absurd cc

fitting : (b : Bool) (text x : List ℕ) (due : Result (List ℕ) KeyFault) → if_length b text due ≡ Ok x → due ≡ Ok x
fitting true text x due e = e
fitting false text x due e = absurd cc

pub sscc_is_ascii : (sscc : List ℕ) → IsSscc sscc → IsAscii sscc
unfolding sscc_of key_fault
sscc_is_ascii sscc is = are_ascii is_digit digit_is_ascii 0 sscc (all_digits (first_other is_digit 0 sscc) _ sscc sscc (fitting (length sscc == 18) sscc sscc _ is))
