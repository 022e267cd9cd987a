-- The things of a batch as a chain, by their places.
use Rattle.std.specs.Prelude.{◌≡◌, ℕ, zero, suc, ◌<◌, eqb, cond, List, [], ◌∷◌, length, slice_index, slice_index_or, Option, None, Some}

-- the newest place of the batch's below a number, where each place has a batch
abbrev pub latest_below : ℕ → List ℕ → ℕ → Option ℕ
latest_below batch batches zero = None
latest_below batch batches (suc n) = cond (eqb (slice_index batches n) batch) (Some n) (latest_below batch batches n)

-- the batch's places below a number, the newest first
abbrev pub newest_below : ℕ → List ℕ → ℕ → List ℕ
newest_below batch batches zero = []
newest_below batch batches (suc n) = cond (eqb (slice_index batches n) batch) (n ∷ newest_below batch batches n) (newest_below batch batches n)

-- a place, if there is one, and the batch's below it
abbrev pub newest_from : Option ℕ → ℕ → List ℕ → List ℕ
newest_from None batch batches = []
newest_from (Some at) batch batches = at ∷ newest_below batch batches at

-- each batch's newest place, and before each place the newest of its batch
pub record IsChain (batches : List ℕ) (latest earlier : List (Option ℕ)) : Type 0 where
  pub ends : (batch : ℕ) → slice_index_or latest batch None ≡ latest_below batch batches (length batches)
  pub steps : (at : ℕ) → at < length batches → slice_index_or earlier at None ≡ latest_below (slice_index batches at) batches at

-- the place, if there is one, is one of the batch's
abbrev pub IsOwn : Option ℕ → ℕ → List ℕ → Type 0
IsOwn None batch batches = Unit {0}
IsOwn (Some at) batch batches = (at < length batches) × (slice_index batches at ≡ batch)
