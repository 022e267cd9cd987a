-- The URN of a container is ASCII.
use Rattle.std.proofs.Common.{◌≡◌, ℕ, ◌<◌, ◌+◌, ◌-◌, Bool, List, [], ◌∷◌, ◌++◌, take, drop, length, nat_lt, true, refl, arith, IsAscii}
use Rattle.std.proofs.lemmas.Bool.Decides.{nat_tests}
use Rattle.std.proofs.lemmas.Str.{IsAscii-append, IsAscii-take, IsAscii-drop}
use Rattle.gs1_keys.specs.Keys.{front}
use Rattle.epc_urn.specs.declared.epc.Epc.TheVariants.{Unit}
use Rattle.epc_urn.specs.Urns.{urn_text, key_text, sscc_scheme}
use Rattle.deed_json.proofs.Ascii.{are_ascii}

abbrev is_low : ℕ → Bool
is_low b = nat_lt b 128

low_is_ascii : (b : ℕ) → is_low b ≡ true → b < 128
low_is_ascii b is = grind (arith, nat_tests)

dot_is_ascii : IsAscii (46 ∷ [])
dot_is_ascii = are_ascii is_low low_is_ascii 0 (46 ∷ []) refl

scheme_is_ascii : IsAscii sscc_scheme
unfolding sscc_scheme
scheme_is_ascii = are_ascii is_low low_is_ascii 0 sscc_scheme refl

key_is_ascii : (digits : List ℕ) (n : ℕ) → IsAscii digits → IsAscii (key_text n digits)
key_is_ascii digits n ascii =
    IsAscii-append (take n (drop 1 digits)) (46 ∷ (take 1 digits ++ drop (1 + n) digits)) (IsAscii-take (drop 1 digits) n (IsAscii-drop digits 1 ascii))
    (IsAscii-append (46 ∷ []) (take 1 digits ++ drop (1 + n) digits) dot_is_ascii (IsAscii-append (take 1 digits) (drop (1 + n) digits) (IsAscii-take digits 1 ascii) (IsAscii-drop digits (1 + n) ascii)))

pub urn_is_ascii : (sscc : List ℕ) (prefix_length : ℕ) → IsAscii sscc → IsAscii (urn_text (Unit sscc) prefix_length)
unfolding urn_text
urn_is_ascii sscc prefix_length ascii =
    IsAscii-append sscc_scheme (key_text prefix_length (front sscc)) scheme_is_ascii (key_is_ascii (front sscc) prefix_length (IsAscii-take sscc (length sscc - 1) ascii))
