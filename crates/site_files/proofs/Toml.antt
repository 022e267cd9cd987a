-- What `toml` reads from bytes, from the clauses of its reader.
use Rattle.std.proofs.Common.{◌≡◌, ℕ, List, Some, None, refl, inl, inr, BTreeMap, Global, String}
use Rattle.std.specs.Prelude.{IsUtf8}
use Rattle.std.specs.Str.{is_utf8}
use Rattle.std.proofs.lemmas.Bool.{cases_Bool}
use Rattle.std.proofs.lemmas.Str.{IsUtf8-from_is_utf8, is_utf8-from_IsUtf8}
use Rattle.toml.specs.Parse.{parse_document}
use Rattle.toml.specs.View.{view, table_view}
use Rattle.toml.specs.declared.value.Value.{Value, Table}
use Rattle.toml.proofs.Views.{view-Table}
use Rattle.site_files.specs.Sites.{toml_of}

pub toml_of_read : (bytes : List ℕ) (t : BTreeMap (String Global) Value) → IsUtf8 bytes → parse_document bytes ≡ Some (table_view t) → toml_of bytes ≡ Some (view (Table t))
unfolding toml_of
toml_of_read bytes t text is = rw (is_utf8-from_IsUtf8 bytes text, is, view-Table t)

pub toml_of_refused : (bytes : List ℕ) → (IsUtf8 bytes → parse_document bytes ≡ None) → toml_of bytes ≡ None
unfolding toml_of
toml_of_refused bytes none = elim (cases_Bool (is_utf8 bytes)) [
  | inl text ↦ rw (text, none (IsUtf8-from_is_utf8 bytes text))
  | inr other ↦ rw other refl
]
