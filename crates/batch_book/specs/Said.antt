-- What a contract says of declarations.
use Rattle.std.specs.Prelude.{ℕ, ◌≤◌, ◌<◌, ◌&&◌, ◌≡◌, Bool, eqb, List, [], ◌∷◌, map, find, reverse, length, Option, option_map, slice_index}
use Rattle.batch_book.specs.declared.row.DeclarationRow.{DeclarationRow}
use Rattle.row_chains.specs.Chains.{NoneIn}

-- a declaration, with its good, spoiled and returned serials
abbrev pub declared : ℕ → ℕ → List ℕ → DeclarationRow
declared batch line numbers =
    record { batch = batch; line = line; good = slice_index numbers 0; spoiled = slice_index numbers 1; returned = slice_index numbers 2 }

-- good, spoiled and returned, as they were declared
abbrev pub numbers_in : DeclarationRow → List ℕ
numbers_in said = said.good ∷ said.spoiled ∷ said.returned ∷ []

-- the batches of the declarations
abbrev pub batch_in : DeclarationRow → ℕ
batch_in said = said.batch

abbrev pub batches : List DeclarationRow → List ℕ
batches declarations = map batch_in declarations

-- the line declared this of the batch
abbrev pub is_by : ℕ → ℕ → DeclarationRow → Bool
is_by batch line said = eqb said.batch batch && eqb said.line line

-- what the line declared last of the batch
abbrev pub last_by : ℕ → ℕ → List DeclarationRow → Option DeclarationRow
last_by batch line declarations = find (is_by batch line) (reverse declarations)

abbrev pub declared_last : ℕ → ℕ → List DeclarationRow → Option (List ℕ)
declared_last batch line declarations = option_map numbers_in (last_by batch line declarations)

-- the place of the first of a batch from another place on, or the end
pub record IsReached (batches : List ℕ) (from batch at : ℕ) : Type 0 where
  pub later : from ≤ at
  pub own : at < length batches → slice_index batches at ≡ batch
  pub none : NoneIn batches from at batch
