-- What `serde_json` reads from bytes, from the clauses of its reader.
use Rattle.std.proofs.Common.{◌≡◌, ℕ, List, Some, None, refl, inl, inr}
use Rattle.std.specs.Prelude.{IsUtf8}
use Rattle.std.specs.Str.{is_utf8}
use Rattle.std.proofs.lemmas.Bool.{cases_Bool}
use Rattle.std.proofs.lemmas.Str.{IsUtf8-from_is_utf8, is_utf8-from_IsUtf8}
use Rattle.serde_json.specs.Data.{Data}
use Rattle.serde_json.specs.Read.{read}
use Rattle.deed_json.specs.Asked.{json_of}

-- bytes that are UTF-8 and read as a value
pub json_of_read : (bytes : List ℕ) (d : Data) → IsUtf8 bytes → read bytes ≡ Some d → json_of bytes ≡ Some d
unfolding json_of
json_of_read bytes d text is = rw (is_utf8-from_IsUtf8 bytes text) is

-- bytes that read as nothing where they are UTF-8
pub json_of_refused : (bytes : List ℕ) → (IsUtf8 bytes → read bytes ≡ None) → json_of bytes ≡ None
unfolding json_of
json_of_refused bytes none = elim (cases_Bool (is_utf8 bytes)) [
  | inl text ↦ rw text (none (IsUtf8-from_is_utf8 bytes text))
  | inr other ↦ rw other refl
]
