-- A text that is filled byte by byte.
use Rattle.std.proofs.Common.{◌<◌, ◌∷◌, set, append_assoc, add-one, [], ◌≡◌, ◌+◌, ℕ, List, ◌++◌, length, take, sym, refl, ap, ◌∙◌, arith}
use Rattle.std.proofs.lemmas.List.{length-take-le, take_more_set, length-append}

-- one byte more of a text in place
pub byte_more : (bytes rest after all : List ℕ) (len byte : ℕ) → len < length bytes → rest ≡ byte ∷ after → take len bytes ++ rest ≡ all → take (len + 1) (set bytes len byte) ++ after ≡ all
byte_more bytes rest after all len byte lt e same =
    ap (λ (a : List ℕ). a ++ after) (take_more_set bytes len byte lt) ∙ append_assoc (take len bytes) (byte ∷ []) after ∙ ap (λ (r : List ℕ). take len bytes ++ r) (sym e) ∙ same

-- no place for one byte more
pub too_many : (bytes rest after all : List ℕ) (len byte : ℕ) → len ≡ length bytes → rest ≡ byte ∷ after → take len bytes ++ rest ≡ all → len < length all
too_many bytes rest after all len byte full e same =
    let a : length (take len bytes) ≡ len = length-take-le len bytes (omega arith) in
    let b : length rest ≡ length after + 1 = ap length e ∙ rw add-one refl in
    omega (arith, a, b, ap length same, length-append (take len bytes) rest)
