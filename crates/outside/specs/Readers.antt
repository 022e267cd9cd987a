-- What is left in a reader, and the words in its bytes.
use Rattle.std.specs.Prelude.{◌-◌, ℕ, List, [], ◌∷◌, take, drop, Option, Some, None}
use Rattle.std.specs.Int.{from_le_bytes, w64}
use Rattle.std.specs.Io.KnownBytes.{prepend_known}

-- each eight bytes are a word, the lowest byte first; fewer at the end are none
abbrev pub words_of : List ℕ → List ℕ
words_of (a ∷ b ∷ c ∷ d ∷ e ∷ f ∷ g ∷ h ∷ rest) = from_le_bytes w64 (a ∷ b ∷ c ∷ d ∷ e ∷ f ∷ g ∷ h ∷ []) ∷ words_of rest
words_of rest = []

-- the words of the bytes that are told
abbrev pub words_told : Option (List ℕ) → Option (List ℕ)
words_told None = None
words_told (Some bytes) = Some (words_of bytes)

-- what is left in a reader that may not be there
abbrev pub left_in : {R : Type 0} → (R → Option (List ℕ)) → Option R → Option (List ℕ)
left_in remaining None = None
left_in remaining (Some reader) = remaining reader

-- the bytes of a buffer from one place to another, and then those of its reader
abbrev pub bytes_ahead : {R : Type 0} → (R → Option (List ℕ)) → List ℕ → ℕ → ℕ → Option R → Option (List ℕ)
bytes_ahead remaining buffer start end inner = prepend_known (take (end - start) (drop start buffer)) (left_in remaining inner)
