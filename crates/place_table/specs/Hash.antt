-- The hash of a text, and of two texts that name one thing: FNV-1a of 64 bits, of which the upper 32 are taken.
use Rattle.std.specs.Prelude.{ℕ, ◌*◌, ◌/◌, ◌%◌, ◌^◌, List, bit_xor, fold}

abbrev pub mix : ℕ → ℕ → ℕ
mix hash byte = bit_xor hash byte * 1099511628211 % 2 ^ 64

-- the hash from which all begin
abbrev pub basis : ℕ
basis = 14695981039346656037

unfoldable pub text_hash : List ℕ → ℕ
text_hash text = fold mix basis text / 2 ^ 32

unfoldable pub pair_hash : List ℕ → List ℕ → ℕ
pair_hash first second = fold mix (fold mix basis first) second / 2 ^ 32
