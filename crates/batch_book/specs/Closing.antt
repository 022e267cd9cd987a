-- Why a batch isn't accounted for, by number.
use Rattle.std.specs.Prelude.{◌≡◌, ℕ, ◌<◌, Bool, true, false, not, ◌&&◌, eqb, List, Option, None, Some, is_none, option_and_then, if◌then◌else◌}
use Rattle.std.specs.List.{slice_get, list_any}
use Rattle.deed_words.specs.Names.{same}
use Rattle.deed_words.specs.Chain.{when}
use Rattle.deed_words.specs.Accounts.{is_case}
use Rattle.deed_words.specs.Moves.{is_active, is_filling, is_sealed}
use Rattle.deed_words.specs.declared.rule.Finding.{Finding}
use Rattle.deed_words.specs.declared.rule.Finding.TheVariants.{NotDeclared, DeclaredDiffers}
use Rattle.item_store.specs.declared.row.ItemRow.{ItemRow}
use Rattle.item_store.specs.Rows.{is_of, is_lent_to, line_counts_of}
use Rattle.pack_tree.specs.declared.node.Node.TheVariants.{Item as AnItem, Unit as AUnit}
use Rattle.pack_tree.specs.declared.node.UnitRow.{UnitRow}
use Rattle.pack_tree.specs.declared.link.Pair.{Pair as Link}
use Rattle.pack_tree.specs.Pairs.{parent_in}
use Rattle.pack_tree.specs.Units.{batch_in}
use Rattle.batch_book.specs.declared.row.DeclarationRow.{DeclarationRow}
use Rattle.batch_book.specs.declared.packed.Fault.{Fault}
use Rattle.batch_book.specs.declared.packed.Fault.TheVariants.{Open, Loose}
use Rattle.batch_book.specs.Said.{declared_last}

-- the place of the first of a list that passes, with its place
abbrev pub IsFirstIn : {A : Type 0} → (ℕ → A → Bool) → List A → Option ℕ → Type 0
IsFirstIn {A} test xs None = (k : ℕ) (x : A) → slice_get xs k ≡ Some x → test k x ≡ false
IsFirstIn {A} test xs (Some at) = ((x : A) × (slice_get xs at ≡ Some x) × (test at x ≡ true)) × ((k : ℕ) (x : A) → k < at → slice_get xs k ≡ Some x → test k x ≡ false)

-- the answer for the least number below another that has one
abbrev pub IsFirstFor : {B : Type 0} → (ℕ → Option B) → ℕ → Option B → Type 0
IsFirstFor answer n None = (k : ℕ) → k < n → answer k ≡ None
IsFirstFor answer n (Some value) = (at : ℕ) × (at < n) × (answer at ≡ Some value) × ((k : ℕ) → k < at → answer k ≡ None)

-- the row is Active, and stands in no unit
abbrev pub is_free : List Link → ℕ → ItemRow → Bool
is_free links at row = is_active row.state && is_none (parent_in links (AnItem at))

abbrev pub is_unpacked : ℕ → List Link → ℕ → ItemRow → Bool
is_unpacked batch links at row = is_of batch row && is_free links at row

-- the unit is Filling, or is a Sealed case that stands on no pallet
abbrev pub shows : Fault → List Link → ℕ → UnitRow → Bool
shows Open links at unit = is_filling unit.mark
shows Loose links at unit = is_case unit.level && is_sealed unit.mark && is_none (parent_in links (AUnit at))

abbrev pub is_shown : ℕ → Fault → List Link → ℕ → UnitRow → Bool
is_shown batch fault links at unit = eqb (batch_in unit) batch && shows fault links at unit

-- the line was lent serials of the batch, and declared nothing
abbrev pub silent : ℕ → List ItemRow → List DeclarationRow → ℕ → Option Finding
silent batch rows declarations line = when (list_any (is_lent_to batch line) rows && is_none (declared_last batch line declarations)) (NotDeclared line)

-- the line was lent serials of the batch, and declared other numbers last than are counted
abbrev pub differing : ℕ → List ItemRow → List DeclarationRow → ℕ → Option Finding
differing batch rows declarations line =
    if list_any (is_lent_to batch line) rows then
    option_and_then
    (λ said. when (not (same said (line_counts_of batch line rows))) (DeclaredDiffers line (line_counts_of batch line rows) said))
    (declared_last batch line declarations)
    else None
